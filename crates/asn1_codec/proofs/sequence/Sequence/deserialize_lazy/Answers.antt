use Rattle.asn1_codec.proofs.Sequences.{opened}
use Rattle.asn1_codec.proofs.sequence.Sequence.deserialize_lazy.Goals as goal

pub returns : goal.returns
returns g c =
    opened c.args.tag c.in_ok-count.count _ _ _ _ c.in_ok-count.ensures.0 c.enter-outside.ensures.inside c.enter-outside.ensures.outside
