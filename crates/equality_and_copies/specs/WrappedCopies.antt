-- Copies of values under a tag, in a container, that may be missing or that have a default.
use Rattle.std.proofs.Common.{ℕ}
use Rattle.std.specs.Prelude.{Option}
use Rattle.asn1_codec.specs.declared.optional.Optional.{Optional}
use Rattle.picky_asn1_der.specs.declared.application_tag.ApplicationTag.{ApplicationTag}
use Rattle.picky_asn1_der.specs.declared.bit_container.BitStringContainer.{BitStringContainer}
use Rattle.picky_asn1_der.specs.declared.container.OctetStringContainer.{OctetStringContainer}
use Rattle.picky_asn1_der.specs.declared.default.DefaultField.{DefaultField}
use Rattle.picky_asn1_der.specs.declared.implicit_tag.ImplicitContextTag.{ImplicitContextTag}
use Rattle.picky_asn1_der.specs.declared.retagged.Retagged.{Retagged}
use Rattle.picky_asn1_der.specs.declared.wrapper.ExplicitContextTag.{ExplicitContextTag}
use Rattle.equality_and_copies.specs.Copied.{IsCopied, BothOrNone, told_by, options}

module _ {K : Type 0} {C : K → K → Type 0} (copied : IsCopied C) where
  pub optional : IsCopied (λ (v w : Optional K). C v.0 w.0)
  optional = told_by (λ v. v.0) copied (λ v w e i. record { 0 = e i })

  pub default_field : IsCopied (λ (v w : DefaultField K). C v.0 w.0)
  default_field = told_by (λ v. v.0) copied (λ v w e i. record { 0 = e i })

  pub octet_container : IsCopied (λ (v w : OctetStringContainer K). C v.0 w.0)
  octet_container = told_by (λ v. v.0) copied (λ v w e i. record { 0 = e i })

  pub bit_container : IsCopied (λ (v w : BitStringContainer K). C v.0 w.0)
  bit_container = told_by (λ v. v.0) copied (λ v w e i. record { 0 = e i })

  module _ {N : ℕ} where
    pub explicit_tag : IsCopied (λ (v w : ExplicitContextTag N K). C v.0 w.0)
    explicit_tag = told_by (λ v. v.0) copied (λ v w e i. record { 0 = e i })

    pub implicit_tag : IsCopied (λ (v w : ImplicitContextTag N K). C v.0 w.0)
    implicit_tag = told_by (λ v. v.0) copied (λ v w e i. record { 0 = e i })

    pub retagged : IsCopied (λ (v w : Retagged N K). C v.0 w.0)
    retagged = told_by (λ v. v.0) copied (λ v w e i. record { 0 = e i })

    pub application_tag : IsCopied (λ (v w : ApplicationTag K N). C v.0 w.0)
    application_tag = told_by (λ v. v.0) copied (λ v w e i. record { 0 = e i })

    -- a field that may be missing
    pub optional_tag : IsCopied (λ (v w : Optional (Option (ExplicitContextTag N K))). BothOrNone (λ x y. C x.0 y.0) v.0 w.0)
    optional_tag = told_by (λ v. v.0) (options explicit_tag) (λ v w e i. record { 0 = e i })
