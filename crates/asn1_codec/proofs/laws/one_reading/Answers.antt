use Rattle.asn1_codec.proofs.Cuts.{next-reading, same-reading}
use Rattle.asn1_codec.proofs.laws.one_reading.Goals as goal

pub returns-clause-exact : goal.returns-clause-exact
returns-clause-exact g c =
    λ limit old new answer is. next-reading g.T.FromDer.seen g.T.FromDer.reads g.T.FromDer.one_value limit old new answer is

pub returns-clause-same : goal.returns-clause-same
returns-clause-same g c =
    λ limit input left other a b first second fair also. same-reading g.T.FromDer.seen g.T.FromDer.reads g.T.FromDer.one_value limit input left other a b first second fair also
