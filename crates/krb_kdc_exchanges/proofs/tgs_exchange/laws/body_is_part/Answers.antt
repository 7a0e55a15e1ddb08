use Rattle.std.proofs.Common.{[], ◌∷◌, refl}
use Rattle.krb_kdc_exchanges.proofs.RequestParts.{body_part}
use Rattle.krb_kdc_exchanges.proofs.tgs_exchange.laws.body_is_part.Goals as goal
use Rattle.picky_asn1_der.specs.PartLaws.{part-one}

pub returns-clause-part : goal.returns-clause-part
returns-clause-part c = body_part 108 refl

pub returns-clause-one : goal.returns-clause-one
returns-clause-one c = λ bytes part request is there at. part-one (0 ∷ 3 ∷ 0 ∷ []) bytes part _ at (body_part 108 refl bytes request is there)
