use Rattle.std.proofs.Common.{arith, sym}
use Rattle.gss_logins.proofs.Conversation.{by_mic, by_moved, swapped}
use Rattle.gss_logins.proofs.laws.one_conversation.Goals as goal

pub returns-clause-swapped : goal.returns-clause-swapped
returns-clause-swapped c = swapped

pub returns-clause-wraps : goal.returns-clause-wraps
returns-clause-wraps c =
    λ one other protection confounder message token x followed writes. (
      c.wrap_is_taken.ensures one other one.sending protection confounder message token x.forth writes.made (omega (arith, x.taken)) (λ _. sym x.taken) followed,
      λ after number under taken takes.
          let same = c.unwraps_to_its_message.ensures one other after one.sending number protection under confounder message taken token x.forth writes.made followed takes in
          (same.2, same.1, by_moved one other after x same.3),
    )

pub returns-clause-mics : goal.returns-clause-mics
returns-clause-mics c =
    λ one other message token x followed writes. (
      c.mic_is_taken.ensures one other one.sending message token x.forth writes.made (omega (arith, x.taken)) (λ _. sym x.taken) followed,
      λ after takes. by_mic one other after _ message token x followed writes.made takes,
    )
