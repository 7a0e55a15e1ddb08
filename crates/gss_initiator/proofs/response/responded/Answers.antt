use Rattle.std.proofs.Common.{Err, inr, refl}
use Rattle.decision_tables.specs.Tables.{done}
use Rattle.gss_acceptor.specs.Responses.{IsNegResp, sole_neg_resp}
use Rattle.gss_initiator.proofs.Outcomes.{found, not_found}
use Rattle.gss_initiator.specs.Responses.{answer_in, responded}
use Rattle.gss_initiator.specs.declared.refusal.InitiateRefusal.TheVariants.{NotAToken}
use Rattle.gss_initiator.proofs.response.responded.Goals as goal

pub returns-in-Some : goal.returns-in-Some
unfolding responded
returns-in-Some c =
    let token = c.args.token.now in
    let is = rw c.in-Some.is at c.in_ok-read.ensures in
    found (IsNegResp token) (sole_neg_resp token) (done (Err NotAToken)) (λ message. done (answer_in message)) c.answer_in.result c.in-Some.message.0 is (inr c.answer_in.ensures)

pub returns-in-None : goal.returns-in-None
unfolding responded
returns-in-None c =
    let token = c.args.token.now in
    let none = rw c.in-None.is at c.in_ok-read.ensures in
    not_found (IsNegResp token) (sole_neg_resp token) (done (Err NotAToken)) (λ message. done (answer_in message)) (Err NotAToken) (λ message is. none (record { 0 = message }) is) (inr refl)
