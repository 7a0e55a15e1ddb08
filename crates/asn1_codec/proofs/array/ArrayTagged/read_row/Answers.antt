use Rattle.std.proofs.Common.{length, ap, ◌∙◌}
use Rattle.asn1_codec.proofs.ArrayLemmas.{refused-count}
use Rattle.asn1_codec.proofs.array.ArrayTagged.read_row.Goals as goal

pub returns-in_default : goal.returns-in_default
returns-in_default g c =
    let other = rw c.in_default.is at c.array_of.ensures in
    refused-count g.row.N c.args.tag g.T.Serialize.tree g.T.Serialize.seen g.T.Serialize.injective c.in_ok-elements.elements _ _ _ _ _ c.in_ok-elements.ensures
    (λ same. other (ap length c.into_vec.ensures ∙ same)) c.refuse.ensures.after c.refuse.ensures.fault tt
