-- Private keys on elliptic curves as the rows of their fields.
use Rattle.std.proofs.Common.{◌≡◌, ℕ, List, ap, sym, ◌∙◌}
use Rattle.std.specs.Prelude.{Option, ⊤}
use Rattle.asn1_codec.specs.declared.optional.Optional.{Optional}
use Rattle.picky_asn1.specs.BitString.{Bits}
use Rattle.picky_asn1_der.specs.declared.wrapper.ExplicitContextTag.{ExplicitContextTag}
use Rattle.x509_algorithms.specs.declared.ec_parameters.EcParameters.{EcParameters}
use Rattle.x509_spelling.specs.declared.fixed_number.FixedNumber.{FixedNumber}
use Rattle.x509_keys.specs.Under.{under, not_under, not_under-under}
use Rattle.x509_keys.specs.declared.ec_private_key.ECPrivateKey.{ECPrivateKey}

abbrev pub EcRow : Type 0
EcRow = FixedNumber 1 × (List ℕ × (Optional (Option (ExplicitContextTag 0 EcParameters)) × (Optional (Option (ExplicitContextTag 1 Bits)) × ⊤)))

abbrev pub ec_row : ECPrivateKey → EcRow
ec_row v = (v.version, (v.private_key, (record { 0 = under v.parameters }, (record { 0 = under v.public_key }, tt))))

pub same_ec : (v w : ECPrivateKey) → ec_row v ≡ ec_row w → v ≡ w
same_ec v w e =
    let parameters : v.parameters ≡ w.parameters =
    sym (not_under-under 0 v.parameters) ∙ ap (λ (f : EcRow). not_under f.1.1.0.0) e ∙ not_under-under 0 w.parameters in
    let publics : v.public_key ≡ w.public_key =
    sym (not_under-under 1 v.public_key) ∙ ap (λ (f : EcRow). not_under f.1.1.1.0.0) e ∙ not_under-under 1 w.public_key in
    λ i. record { version = (e i).0; private_key = (e i).1.0; parameters = parameters i; public_key = publics i }
