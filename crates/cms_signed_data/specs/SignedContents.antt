-- Signed content, and what is borrowed of it (RFC 5652, section 5).
use Rattle.std.specs.Prelude.{◌≡◌, ◌↔◌, ◌⊎◌, ℕ, List, Result, Ok, Err, IsTrue}
use Rattle.picky_asn1_der.specs.Parts.{IsPart}
use Rattle.cms_signed_data.specs.contracts.content_info.ContentInfoSpelled.TheImpl as content_info
use Rattle.cms_signed_data.specs.declared.content_info.ContentInfo.{ContentInfo}
use Rattle.cms_signed_data.specs.Form.{has_form}
use Rattle.cms_signed_data.specs.Parts.{certificate_place, attributes_place}
use Rattle.cms_signed_data.specs.declared.fault.SignedFault.{SignedFault}
use Rattle.cms_signed_data.specs.declared.fault.SignedFault.TheVariants.{Memory}
use Rattle.cms_signed_data.specs.SignedParts.{SignedParts}

-- The bytes are a spelling of this signed data, with any count of deviations, and it is of the one form.
abbrev pub IsOfForm : List ℕ → ContentInfo → Type 0
IsOfForm bytes info = ((n : ℕ) × content_info.ghosts.spells info bytes n) × IsTrue (has_form info)

-- The certificate and the signed attributes are the input's own bytes (RFC 5652, sections 5.1 and 5.3).
-- Test: `good: certificate 10, 4 deviations in it, 1 in the three identifiers`.
-- Not judged: message-digest may be any octets in what is read, and the signature too (RFC 5652, section 5.4).
-- Test: `good: digest of no bytes`, `good: signature empty`.
pub record IsSignedContent (bytes : List ℕ) (parts : SignedParts) : Type 0 where
  pub form : IsOfForm bytes parts.info
  pub certificate_at : IsPart bytes certificate_place parts.certificate
  pub attributes_at : IsPart bytes attributes_place parts.signed_attributes

-- The answer is the one value that is so, and a fault if there is none; or memory ran out.
abbrev pub Reads : {T : Type 0} → (T → Type 0) → Result T SignedFault → Type 0
Reads {T} is answer = (answer ≡ Err Memory) ⊎ ((value : T) → (answer ≡ Ok value) ↔ is value)
