use Rattle.std.proofs.Common.{refl, inl}
use Rattle.cms_signed_data.specs.SignedContents.{IsSignedContent, Reads}
use Rattle.cms_signed_data.specs.declared.fault.SignedFault.TheVariants.{Unreadable, Memory}
use Rattle.cms_signed_data.proofs.ReadLemmas.{exit_as, no_content, refused_form, told_form, reads_parts}
use Rattle.cms_signed_data.proofs.signed_content.SignedContent.read.Goals as goal

pub returns-in_default : goal.returns-in_default
returns-in_default c = no_content c.args.bytes.now Unreadable (λ info n s. c.in_default.ensures info n s)

pub returns-in_err-covered : goal.returns-in_err-covered
returns-in_err-covered c = exit_as _ Memory (Reads (IsSignedContent c.args.bytes.now)) c.from_residual.ensures.1 (inl refl)

pub returns-in_err-info : goal.returns-in_err-info
returns-in_err-info c =
    exit_as _ _ (Reads (IsSignedContent c.args.bytes.now)) c.from_residual-in_err-info.ensures.1 (refused_form c.args.bytes.now _ c.in_err-info.ensures)

pub returns : goal.returns
returns c =
    let told = told_form c.args.bytes.now c.in_ok-info.info c.in_ok-info.ensures in
    let parts = c.in-Some.ensures c.in_ok-info.info told.0.0 told.0.1 in
    reads_parts c.args.bytes.now c.in_ok-info.info _ _ c.in_ok-info.ensures parts.certificate_is parts.attributes_are _ refl

pub invariant_of-result : goal.invariant_of-result
invariant_of-result c =
    let told = told_form c.args.bytes.now c.in_ok-info.info c.in_ok-info.ensures in
    let parts = c.in-Some.ensures c.in_ok-info.info told.0.0 told.0.1 in
    (parts.content_is, parts.digest_is, parts.signature_is, c.in_ok-covered.ensures)
