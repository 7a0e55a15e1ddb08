-- What was written over an AuthPack, or why nothing was.
use Rattle.std.proofs.Common.{◌≡◌, ℕ, List, Option, None, Some, inl, inr, subst}
use Rattle.std.specs.Prelude.{◌⊎◌, Vec, MatchOption}
use Rattle.std.specs.Global.{Global}
use Rattle.x509_keys.specs.declared.functions.Signed.{Signed}
use Rattle.cms_signed_data.specs.Written.{IsNoCertificate, IsUnsigned, IsWritten, signed_bytes}
use Rattle.cms_signed_data.specs.declared.fault.SignedFault.{SignedFault}
use Rattle.cms_signed_data.specs.declared.fault.SignedFault.TheVariants.{Unreadable, Memory}

module _ (sign : List ℕ → Option Signed) (content given : List ℕ) where
  -- the bytes that were written, or why there are none
  abbrev pub Signs : List ℕ → Option (Vec ℕ Global) → Type 0
  Signs content_type signed =
      MatchOption signed ((sign (signed_bytes content_type content) ≡ None) ⊎ IsNoCertificate given) (λ bytes. IsWritten sign content_type content given bytes.items)

  signs : (content_type : List ℕ) (signed : Option (Vec ℕ Global))
      → MatchOption signed (IsUnsigned sign content_type content given) (λ bytes. IsWritten sign content_type content given bytes.items) → Signs content_type signed
  signs content_type None is = inl is.1
  signs content_type (Some bytes) is = is

  pub signs_at : (content_type expected : List ℕ) → content_type ≡ expected → (signed : Option (Vec ℕ Global))
      → MatchOption signed (IsUnsigned sign content_type content given) (λ bytes. IsWritten sign content_type content given bytes.items) → Signs expected signed
  signs_at content_type expected same signed is = subst (λ (t : List ℕ). Signs t signed) same (signs content_type signed is)

  -- the certificate's bytes are none
  pub none_at : (content_type : List ℕ) (fault : SignedFault) → (fault ≡ Memory → ⊥) → (fault ≡ Memory) ⊎ ((fault ≡ Unreadable) × IsNoCertificate given) → Signs content_type None
  none_at content_type fault other (inl memory) = absurd (other memory)
  none_at content_type fault other (inr unread) = inr unread.1
