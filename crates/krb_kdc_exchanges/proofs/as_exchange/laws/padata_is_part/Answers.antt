use Rattle.std.proofs.Common.{[], ◌∷◌, refl}
use Rattle.asn1_der.specs.Length.{element}
use Rattle.krb_kdc_exchanges.proofs.RequestParts.{held_in, padata_part, within}
use Rattle.krb_kdc_exchanges.proofs.as_exchange.laws.padata_is_part.Goals as goal

pub returns : goal.returns
returns c = λ bytes padata kind request is e.
    let at = padata_part 106 refl bytes request kind padata is e in
    (at.0, at.1, λ n path part x. within (0 ∷ 2 ∷ 0 ∷ at.0 ∷ 1 ∷ 0 ∷ []) (0 ∷ n ∷ path) bytes (element 4 padata) part at.1 (held_in padata n path part x))
