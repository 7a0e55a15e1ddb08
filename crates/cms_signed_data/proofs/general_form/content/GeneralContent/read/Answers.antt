use Rattle.std.proofs.Common.{refl, inl}
use Rattle.cms_signed_data.specs.SignedContents.{Reads}
use Rattle.cms_signed_data.specs.declared.fault.SignedFault.TheVariants.{Unreadable, Memory}
use Rattle.cms_signed_data.specs.GeneralContents.{IsGeneralContent, IsGeneralInfo}
use Rattle.cms_signed_data.proofs.GeneralReadLemmas.{exit_as, is_content, no_form, no_info}
use Rattle.cms_signed_data.proofs.general_form.content.GeneralContent.read.Goals as goal

pub returns-in_err-info : goal.returns-in_err-info
returns-in_err-info c = exit_as _ Memory (Reads (IsGeneralContent c.args.bytes.now)) c.from_residual.ensures.1 (inl refl)

pub returns-in_default : goal.returns-in_default
returns-in_default c =
    let none = rw c.in_default.is at c.in_ok-info.ensures in
    no_info c.args.bytes.now Unreadable none

pub returns-in-Ok : goal.returns-in-Ok
returns-in-Ok c =
    let found : IsGeneralInfo c.args.bytes.now c.in-Some.info = rw c.in-Some.is at c.in_ok-info.ensures in
    is_content c.args.bytes.now c.in-Some.info _ _ found c.in-Ok.ensures.0 _ refl

pub returns-in-Err : goal.returns-in-Err
returns-in-Err c =
    let found : IsGeneralInfo c.args.bytes.now c.in-Some.info = rw c.in-Some.is at c.in_ok-info.ensures in
    no_form c.args.bytes.now c.in-Some.info c.in-Err.fault found c.in-Err.ensures
