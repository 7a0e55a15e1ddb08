use Rattle.asn1_codec.proofs.Chain.{refused-taken}
use Rattle.x509_fields.proofs.AgreedLemmas.{none_there, no_value}
use Rattle.x509_fields.proofs.agreed.read_agreed.Goals as goal

pub returns-in_default : goal.returns-in_default
returns-in_default g c =
    let none = none_there _ _ _ c.in-Ok.ensures c.in_default.not-Some in
    refused-taken _ _ _ _ _ _ _ c.in_ok-fields.ensures.1 c.refuse-in_default.ensures.after c.refuse-in_default.ensures.fault tt
    (λ bytes rest more p split within.
    no_value g.F.Fields.seen c.requires.plain g.F.Fields.trees (g.F.Fields.injective c.requires.sound) g.T.Agreed.row_of c.args.tag _ none c.in_ok-fields.ensures.0 bytes rest more p split)
