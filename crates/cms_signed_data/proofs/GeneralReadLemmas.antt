-- What was read is the one signed data that the bytes are.
use Rattle.std.proofs.Common.{◌≡◌, ◌⊎◌, Option, None, Some, Result, Ok, Err, sym, ap, ◌∙◌, subst, inl, inr}
use Rattle.std.specs.Prelude.{IsErrAnd}
use Rattle.picky_asn1.specs.Bytes.{Bytes}
use Rattle.cms_signed_data.specs.declared.general_form.digest_algorithm.DigestAlgorithm.{DigestAlgorithm}
use Rattle.cms_signed_data.specs.SignedContents.{Reads}
use Rattle.cms_signed_data.specs.declared.fault.SignedFault.{SignedFault}
use Rattle.cms_signed_data.specs.declared.fault.SignedFault.TheVariants.{Memory, Unreadable}
use Rattle.cms_signed_data.specs.GeneralContents.{GeneralParts, IsGeneralContent, IsGeneralInfo}
use Rattle.cms_signed_data.specs.GeneralForm.{held_in}
use Rattle.cms_signed_data.specs.GeneralLaws.{one_general, sole_general_info}
use Rattle.cms_signed_data.specs.declared.general_form.general_info.GeneralInfo.{GeneralInfo}

-- a fault that was handed on
pub exit_as : {T E : Type 0} (r : Result T E) (e : E) (P : Result T E → Type 0) → IsErrAnd r (λ told. told ≡ e) → P (Err e) → P r
exit_as (Ok x) e P is p = absurd is
exit_as (Err y) e P is p = subst (λ f. P (Err f)) (sym is) p

-- bytes that are no ContentInfo are no signed data
pub no_info : (bytes : Bytes) (fault : SignedFault) → ((info : GeneralInfo) → IsGeneralInfo bytes info → ⊥) → Reads (IsGeneralContent bytes) (Err fault)
no_info bytes fault none = inr (λ parts. (λ e. absurd (cc (e)), λ is. absurd (none parts.info is.spelled)))

-- nor are those of a ContentInfo that is of another form
other_form : (held : Option (DigestAlgorithm × Bytes)) (found : DigestAlgorithm × Bytes) → held ≡ None → held ≡ Some found → ⊥
other_form held found none some = cc (none, some)

pub no_form : (bytes : Bytes) (info : GeneralInfo) (fault : SignedFault) → IsGeneralInfo bytes info
    → (fault ≡ Memory) ⊎ ((fault ≡ Unreadable) × (held_in info ≡ None)) → Reads (IsGeneralContent bytes) (Err fault)
no_form bytes info fault is (inl memory) = inl (ap Err memory)
no_form bytes info fault is (inr none) =
    inr (λ parts. (
      λ e. absurd (cc (e)),
      λ other.
          let infos : parts.info ≡ info = sole_general_info bytes parts.info info other.spelled is in
          absurd (other_form (held_in info) (parts.algorithm, parts.digest) none.1 (sym (ap held_in infos) ∙ other.held)),
    ))

-- what is of the general form is the one signed data
pub is_content : (bytes : Bytes) (info : GeneralInfo) (algorithm : DigestAlgorithm) (digest : Bytes) → IsGeneralInfo bytes info → held_in info ≡ Some (algorithm, digest)
    → (made : GeneralParts) → made ≡ record { info = info; algorithm = algorithm; digest = digest } → Reads (IsGeneralContent bytes) (Ok made)
is_content bytes info algorithm digest is held made same =
    let wanted : GeneralParts = record { info = info; algorithm = algorithm; digest = digest } in
    let is_wanted : IsGeneralContent bytes wanted = record { spelled = is; held = held } in
    inr (λ parts. (
      λ e. let is_made : made ≡ parts = cc (e) in subst (λ (p : GeneralParts). IsGeneralContent bytes p) (sym same ∙ is_made) is_wanted,
      λ other. ap Ok (same ∙ one_general bytes wanted parts is_wanted other),
    ))
