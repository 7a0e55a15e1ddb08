use Rattle.std.proofs.Common.{[], ◌∷◌, refl}
use Rattle.picky_asn1_der.specs.PartLaws.{part-one}
use Rattle.krb_kdc_exchanges.proofs.RequestParts.{body_part}
use Rattle.krb_kdc_exchanges.proofs.as_exchange.laws.as_body_is_part.Goals as goal

pub returns-clause-part : goal.returns-clause-part
returns-clause-part c = body_part 106 refl

pub returns-clause-one : goal.returns-clause-one
returns-clause-one c = λ bytes part request is there at. part-one (0 ∷ 3 ∷ 0 ∷ []) bytes part _ at (body_part 106 refl bytes request is there)
