use Rattle.std.proofs.Common.{ap, sym}
use Rattle.asn1_codec.proofs.ReadsLemmas.{reads-answer, own-answer}
use Rattle.asn1_codec.proofs.de.first_value.Goals as goal

pub returns-clause-value : goal.returns-clause-value
returns-clause-value g c =
    reads-answer g.T.FromDer.seen g.T.FromDer.reads g.T.FromDer.one_value _ _ _ _ c.new_from_bytes-from.ensures (ap (λ r. r.faults) (sym c.from.view_is)) c.read_from-answer.ensures

pub returns-clause-own : goal.returns-clause-own
returns-clause-own g c =
    own-answer _ _ _ _ _ _ c.new_from_bytes-from.ensures (ap (λ r. r.faults) (sym c.from.view_is)) c.read_from-answer.ensures
