-- Values that may be missing, and the same under an explicit tag.
use Rattle.std.specs.Prelude.{◌≡◌, ℕ, Option, None, Some, refl}
use Rattle.picky_asn1_der.specs.declared.wrapper.ExplicitContextTag.{ExplicitContextTag}

-- A field that may be missing, under its explicit tag (X.680, section 31.2).
abbrev pub under : {A : Type 0} {N : ℕ} → Option A → Option (ExplicitContextTag N A)
under None = None
under (Some value) = Some (record { 0 = value })

abbrev pub not_under : {A : Type 0} {N : ℕ} → Option (ExplicitContextTag N A) → Option A
not_under None = None
not_under (Some held) = Some held.0

pub not_under-under : {A : Type 0} (N : ℕ) (value : Option A) → not_under (under {N = N} value) ≡ value
not_under-under N None = refl
not_under-under N (Some value) = refl
