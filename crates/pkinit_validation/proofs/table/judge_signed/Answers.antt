use Rattle.std.proofs.Common.{Err, inr, refl}
use Rattle.decision_tables.specs.Tables.{done}
use Rattle.cms_signed_data.specs.SignedContents.{IsSignedContent}
use Rattle.cms_signed_data.specs.SignedLaws.{one_content, read_is}
use Rattle.krb_constants.specs.declared.error_codes.TheConstants.{KDC_ERR_PREAUTH_FAILED}
use Rattle.krb_kdc_exchanges.specs.PkinitCalls.{agreed_as}
use Rattle.pkinit_validation.specs.Judging.{judging_of}
use Rattle.pkinit_validation.specs.PkinitTable.{of_content}
use Rattle.pkinit_validation.proofs.JudgedReading.{judged_ask, none_read}
use Rattle.pkinit_validation.proofs.table.judge_signed.Goals as goal

pub returns-in-Ok : goal.returns-in-Ok
returns-in-Ok g c =
    let bytes = c.args.bytes.now in
    judged_ask (IsSignedContent bytes) (one_content bytes) (done (Err KDC_ERR_PREAUTH_FAILED)) (of_content (g.K.KeyFunctions.functions c.args.keys.now) (judging_of c.args.judging.now))
    c.in-Ok.content (agreed_as c.judge_content-judged.result) (read_is (IsSignedContent bytes) c.in-Ok.content c.in-Ok.ensures) c.judge_content-judged.ensures

pub returns-else-eq : goal.returns-else-eq
returns-else-eq g c =
    inr (none_read (IsSignedContent c.args.bytes.now) c.in-Err.fault (λ e. let same = rw e at c.eq.ensures in absurd (cc (same, c.if-eq.false))) c.in-Err.ensures, refl)
