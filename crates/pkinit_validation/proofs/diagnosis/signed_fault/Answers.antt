use Rattle.std.proofs.Common.{Some, inr, refl}
use Rattle.decision_tables.specs.Tables.{done}
use Rattle.cms_signed_data.specs.SignedContents.{IsSignedContent}
use Rattle.cms_signed_data.specs.SignedLaws.{one_content, read_is}
use Rattle.pkinit_validation.specs.Diagnoses.{content_fault}
use Rattle.pkinit_validation.specs.declared.fault.PkAsReqFault.TheVariants as fault
use Rattle.pkinit_validation.proofs.JudgedReading.{none_read}
use Rattle.pkinit_validation.proofs.Told.{if_asked}
use Rattle.pkinit_validation.proofs.diagnosis.signed_fault.Goals as goal

pub returns-in-Ok : goal.returns-in-Ok
returns-in-Ok c =
    let bytes = c.args.bytes.now in
    if_asked (IsSignedContent bytes) (one_content bytes) (done (Some fault.SignedAuthPack)) (content_fault c.args.body.now)
    c.in-Ok.content c.content_fault-fault.result (read_is (IsSignedContent bytes) c.in-Ok.content c.in-Ok.ensures) c.content_fault-fault.ensures
