-- What was written over KDCDHKeyInfo, or why nothing was.
use Rattle.std.proofs.Common.{◌≡◌, ℕ, List, Option, None, Some, inl, inr, subst}
use Rattle.std.specs.Prelude.{◌⊎◌, Vec, MatchOption}
use Rattle.std.specs.Global.{Global}
use Rattle.x509_keys.specs.declared.functions.Signed.{Signed}
use Rattle.cms_signed_data.specs.Written.{IsNoCertificate, IsUnsigned, IsWritten}
use Rattle.cms_signed_data.specs.declared.fault.SignedFault.{SignedFault}
use Rattle.cms_signed_data.specs.declared.fault.SignedFault.TheVariants.{Unreadable, Memory}
use Rattle.cms_signed_data.specs.WrittenOnce.{unsigned_none}

module _ (sign : List ℕ → Option Signed) (content given : List ℕ) where
  -- the bytes that were written, or there are none
  abbrev pub Found : List ℕ → Option (Vec ℕ Global) → Type 0
  Found content_type signed =
      MatchOption signed ((bytes : List ℕ) → IsWritten sign content_type content given bytes → ⊥) (λ bytes. IsWritten sign content_type content given bytes.items)

  found : (content_type : List ℕ) (signed : Option (Vec ℕ Global))
      → MatchOption signed (IsUnsigned sign content_type content given) (λ bytes. IsWritten sign content_type content given bytes.items) → Found content_type signed
  found content_type None is = λ bytes. unsigned_none sign content_type content given bytes is
  found content_type (Some bytes) is = is

  pub found_at : (content_type expected : List ℕ) → content_type ≡ expected → (signed : Option (Vec ℕ Global))
      → MatchOption signed (IsUnsigned sign content_type content given) (λ bytes. IsWritten sign content_type content given bytes.items) → Found expected signed
  found_at content_type expected same signed is = subst (λ (t : List ℕ). Found t signed) same (found content_type signed is)

  -- the certificate's bytes are none
  pub none_at : (content_type : List ℕ) (fault : SignedFault) → (fault ≡ Memory → ⊥) → (fault ≡ Memory) ⊎ ((fault ≡ Unreadable) × IsNoCertificate given)
      → (bytes : List ℕ) → IsWritten sign content_type content given bytes → ⊥
  none_at content_type fault other (inl memory) bytes w = other memory
  none_at content_type fault other (inr unread) bytes w = unread.1 w.value w.count w.certificate_spelled

-- what holds of these bytes and this answer holds of equal ones
pub moved : (sign : List ℕ → Option Signed) (given content_type lent text : List ℕ) (signed other : Option (Vec ℕ Global)) → lent ≡ text → signed ≡ other
    → Found sign lent given content_type signed → Found sign text given content_type other
moved sign given content_type lent text signed other same is found =
    subst (λ (s : Option (Vec ℕ Global)). Found sign text given content_type s) is (subst (λ (l : List ℕ). Found sign l given content_type signed) same found)
