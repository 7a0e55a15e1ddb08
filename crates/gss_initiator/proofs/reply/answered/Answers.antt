use Rattle.gss_acceptor.specs.Tokens.{ap_rep_front}
use Rattle.gss_initiator.proofs.Outcomes.{found, not_found}
use Rattle.gss_initiator.specs.Replies.{IsTokenOf, answered, by_error, replied, sole_reply}
use Rattle.gss_initiator.proofs.reply.answered.Goals as goal

pub returns-in-Some : goal.returns-in-Some
unfolding answered
returns-in-Some c =
    let token = c.args.token.now in
    found (IsTokenOf ap_rep_front token) (sole_reply token) (by_error token) (replied c.args.asked.now) c.replied.result c.in-Some.message.now c.in-Some.ensures c.replied.ensures

pub returns-in-None : goal.returns-in-None
unfolding answered
returns-in-None c =
    let token = c.args.token.now in
    not_found (IsTokenOf ap_rep_front token) (sole_reply token) (by_error token) (replied c.args.asked.now) c.by_error.result c.in-None.ensures c.by_error.ensures
