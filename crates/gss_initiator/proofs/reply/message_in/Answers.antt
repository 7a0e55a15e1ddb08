use Rattle.gss_initiator.proofs.Held.{held_in}
use Rattle.gss_initiator.proofs.reply.message_in.Goals as goal

pub returns : goal.returns
returns c =
    held_in (λ message. message.now) c.args.front.now c.args.token.now c.in_ok-content.content.now c.message_behind.result c.in_ok-content.ensures c.message_behind.ensures
