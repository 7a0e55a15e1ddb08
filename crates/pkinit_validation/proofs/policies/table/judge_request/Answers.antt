use Rattle.std.proofs.Common.{Err, List, ℕ, subst}
use Rattle.decision_tables.specs.Tables.{done}
use Rattle.krb_messages.specs.Refusals.{IsJudged}
use Rattle.krb_constants.specs.declared.error_codes.TheConstants.{KDC_ERR_PREAUTH_FAILED}
use Rattle.pkinit_validation.specs.AuthPacks.{IsPaPkAsReq, sole_pa_pk_as_req}
use Rattle.krb_kdc_exchanges.specs.PkinitCalls.{agreed_as}
use Rattle.pkinit_validation.specs.Judging.{judging_of}
use Rattle.pkinit_validation.specs.GeneralTable.{of_general_signed}
use Rattle.pkinit_validation.proofs.JudgedReading.{judged_ask}
use Rattle.pkinit_validation.proofs.policies.table.judge_request.Goals as goal

pub returns : goal.returns
returns g c =
    let padata = c.args.padata.now in
    let keys = g.K.KeyFunctions.functions c.args.keys.now in
    let judging = judging_of c.args.judging.now in
    let found : IsPaPkAsReq padata c.in-Some.request = rw c.in-Some.is at c.in_ok-request.ensures in
    judged_ask (IsPaPkAsReq padata) (sole_pa_pk_as_req padata) (done (Err KDC_ERR_PREAUTH_FAILED)) (λ request. of_general_signed keys c.args.policy judging request.signed_auth_pack.0)
    c.in-Some.request (agreed_as c.judge_signed-judged.result) found
    (subst (λ (bytes : List ℕ). IsJudged (of_general_signed keys c.args.policy judging bytes).gives (agreed_as c.judge_signed-judged.result)) c.as_bytes.ensures c.judge_signed-judged.ensures)
