use Rattle.std.proofs.Common.{Err, inr, refl}
use Rattle.decision_tables.specs.Tables.{done}
use Rattle.cms_signed_data.specs.SignedLaws.{read_is}
use Rattle.cms_signed_data.specs.GeneralContents.{IsGeneralContent}
use Rattle.cms_signed_data.specs.GeneralLaws.{one_general}
use Rattle.krb_constants.specs.declared.error_codes.TheConstants.{KDC_ERR_PREAUTH_FAILED}
use Rattle.krb_kdc_exchanges.specs.PkinitCalls.{agreed_as}
use Rattle.pkinit_validation.specs.Judging.{judging_of}
use Rattle.pkinit_validation.specs.GeneralTable.{of_general_content}
use Rattle.pkinit_validation.proofs.JudgedReading.{judged_ask, none_read}
use Rattle.pkinit_validation.proofs.policies.table.judge_signed.Goals as goal

pub returns-in-Ok : goal.returns-in-Ok
returns-in-Ok g c =
    let bytes = c.args.bytes.now in
    judged_ask (IsGeneralContent bytes) (one_general bytes) (done (Err KDC_ERR_PREAUTH_FAILED)) (of_general_content (g.K.KeyFunctions.functions c.args.keys.now) c.args.policy (judging_of c.args.judging.now))
    c.in-Ok.content (agreed_as c.judge_content-judged.result) (read_is (IsGeneralContent bytes) c.in-Ok.content c.in-Ok.ensures) c.judge_content-judged.ensures

pub returns-else-eq : goal.returns-else-eq
returns-else-eq g c =
    inr (none_read (IsGeneralContent c.args.bytes.now) c.in-Err.fault (λ e. let same = rw e at c.eq.ensures in absurd (cc (same, c.if-eq.false))) c.in-Err.ensures, refl)
