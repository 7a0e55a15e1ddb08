-- `==` of values under a tag, in a container, that may be missing or that have a default, and of elements.
use Rattle.std.proofs.Common.{ℕ, Bool, true, refl, ap}
use Rattle.std.specs.Prelude.{Option, [], ◌++◌}
use Rattle.std.specs.Bool.{nat_eq}
use Rattle.std.specs.Cmp.Lexicographic.{pointwise, bytes_decides}
use Rattle.std.specs.Cmp.{booleans_Decides}
use Rattle.std.specs.Option.{option_eq}
use mathlib.Core.Bool.{beq}
use Rattle.asn1_der.proofs.Elements.{element-one}
use Rattle.picky_asn1_der.specs.Splits.{raw_bytes}
use Rattle.asn1_codec.specs.declared.optional.Optional.{Optional}
use Rattle.picky_asn1_der.specs.declared.application_tag.ApplicationTag.{ApplicationTag}
use Rattle.picky_asn1_der.specs.declared.bit_container.BitStringContainer.{BitStringContainer}
use Rattle.picky_asn1_der.specs.declared.container.OctetStringContainer.{OctetStringContainer}
use Rattle.picky_asn1_der.specs.declared.default.DefaultField.{DefaultField}
use Rattle.picky_asn1_der.specs.declared.implicit_tag.ImplicitContextTag.{ImplicitContextTag}
use Rattle.picky_asn1_der.specs.declared.wrapper.ExplicitContextTag.{ExplicitContextTag}
use Rattle.picky_asn1_der.specs.declared.retagged.Retagged.{Retagged}
use Rattle.x509_spelling.specs.declared.enclosed.Explicit.{Explicit}
use Rattle.x509_spelling.specs.declared.default_false.DefaultFalse.{DefaultFalse}
use Rattle.x509_spelling.specs.declared.fixed_number.FixedNumber.{FixedNumber}
use Rattle.x509_spelling.specs.declared.strict.Strict.{Strict}
use Rattle.equality_and_copies.specs.Equalities.{IsEquality, told_by, options}

module _ {K : Type 0} {E : K → K → Bool} (same : IsEquality E) where
  pub optional : IsEquality (λ (v w : Optional K). E v.0 w.0)
  optional = told_by (λ v. v.0) same (λ v w e i. record { 0 = e i })

  pub default_field : IsEquality (λ (v w : DefaultField K). E v.0 w.0)
  default_field = told_by (λ v. v.0) same (λ v w e i. record { 0 = e i })

  pub octet_container : IsEquality (λ (v w : OctetStringContainer K). E v.0 w.0)
  octet_container = told_by (λ v. v.0) same (λ v w e i. record { 0 = e i })

  pub bit_container : IsEquality (λ (v w : BitStringContainer K). E v.0 w.0)
  bit_container = told_by (λ v. v.0) same (λ v w e i. record { 0 = e i })

  module _ {N : ℕ} where
    pub explicit_tag : IsEquality (λ (v w : ExplicitContextTag N K). E v.0 w.0)
    explicit_tag = told_by (λ v. v.0) same (λ v w e i. record { 0 = e i })

    pub implicit_tag : IsEquality (λ (v w : ImplicitContextTag N K). E v.0 w.0)
    implicit_tag = told_by (λ v. v.0) same (λ v w e i. record { 0 = e i })

    pub retagged : IsEquality (λ (v w : Retagged N K). E v.0 w.0)
    retagged = told_by (λ v. v.0) same (λ v w e i. record { 0 = e i })

    pub application_tag : IsEquality (λ (v w : ApplicationTag K N). E v.0 w.0)
    application_tag = told_by (λ v. v.0) same (λ v w e i. record { 0 = e i })

    -- a field that may be missing
    pub optional_tag : IsEquality (λ (v w : Optional (Option (ExplicitContextTag N K))). option_eq (λ x y. E x.0 y.0) v.0 w.0)
    optional_tag = told_by (λ v. v.0) (options explicit_tag) (λ v w e i. record { 0 = e i })

    pub explicit : IsEquality (λ (v w : Explicit N K). E v.0 w.0)
    explicit = told_by (λ v. v.0) same (λ v w e i. record { 0 = e i })

  pub strict : IsEquality (λ (v w : Strict K). E v.0 w.0)
  strict = told_by (λ v. v.0) same (λ v w e i. record { 0 = e i })

-- a BOOLEAN that is FALSE by default
pub default_false : {N : ℕ} → IsEquality (λ (v w : DefaultFalse N). beq v.0 w.0)
default_false = told_by (λ v. v.0) booleans_Decides (λ v w e i. record { 0 = e i })

-- a number that its type tells
pub fixed_number : {N : ℕ} → IsEquality (λ (v w : FixedNumber N). true)
fixed_number v w = (λ _. refl, λ _. refl)

-- an element of any type, of which the test compares all bytes
pub elements : IsEquality (λ v w. pointwise nat_eq (raw_bytes v) (raw_bytes w))
elements = told_by raw_bytes bytes_decides (λ v w e.
    let parts = element-one v.first w.first v.content w.content [] [] (ap (λ bytes. bytes ++ []) e) in
    λ i. record { first = parts.0 i; content = parts.1 i })
