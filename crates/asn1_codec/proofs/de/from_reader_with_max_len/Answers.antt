use Rattle.std.proofs.Common.{sym, ◌∙◌}
use Rattle.asn1_codec.proofs.Chain.{at-exit}
use Rattle.asn1_codec.proofs.NextEnds.{missed_element, read_answer, own_count, own_kinds}
use Rattle.asn1_codec.proofs.de.from_reader_with_max_len.Goals as goal

pub returns-in_err-element-clause-fault : goal.returns-in_err-element-clause-fault
returns-in_err-element-clause-fault g c =
    at-exit _ _ _ _ c.from_residual.ensures.1
    (missed_element g.T.FromDer.reads g.T.FromDer.is_element c.args.limit (g.R.Source.left c.args.reader.now) _ c.ranges.limit.fits c.in_err-element.ensures.fault).0

pub returns-in_err-element-clause-end : goal.returns-in_err-element-clause-end
returns-in_err-element-clause-end g c =
    at-exit _ _ _ _ c.from_residual.ensures.1
    (missed_element g.T.FromDer.reads g.T.FromDer.is_element c.args.limit (g.R.Source.left c.args.reader.now) _ c.ranges.limit.fits c.in_err-element.ensures.fault).1

pub returns-clause-value : goal.returns-clause-value
returns-clause-value g c =
    (read_answer g.T.FromDer.reads g.T.FromDer.is_element g.T.FromDer.seen c.args.limit (g.R.Source.left c.args.reader.now) (g.R.Source.left c.read_element.new.reader)
    c.as_slice.result.now c.in_ok-element.element.items c.from_exact_bytes.result c.ranges.limit.fits c.as_slice.ensures.value c.in_ok-element.ensures.took
    c.in_ok-element.ensures.within c.in_ok-element.ensures.element c.from_exact_bytes.ensures.value c.from_exact_bytes.ensures.own c.from_exact_bytes.ensures.end).0

pub returns-clause-fault : goal.returns-clause-fault
returns-clause-fault g c =
    (read_answer g.T.FromDer.reads g.T.FromDer.is_element g.T.FromDer.seen c.args.limit (g.R.Source.left c.args.reader.now) (g.R.Source.left c.read_element.new.reader)
    c.as_slice.result.now c.in_ok-element.element.items c.from_exact_bytes.result c.ranges.limit.fits c.as_slice.ensures.value c.in_ok-element.ensures.took
    c.in_ok-element.ensures.within c.in_ok-element.ensures.element c.from_exact_bytes.ensures.value c.from_exact_bytes.ensures.own c.from_exact_bytes.ensures.end).1

pub returns-clause-end : goal.returns-clause-end
returns-clause-end g c =
    (read_answer g.T.FromDer.reads g.T.FromDer.is_element g.T.FromDer.seen c.args.limit (g.R.Source.left c.args.reader.now) (g.R.Source.left c.read_element.new.reader)
    c.as_slice.result.now c.in_ok-element.element.items c.from_exact_bytes.result c.ranges.limit.fits c.as_slice.ensures.value c.in_ok-element.ensures.took
    c.in_ok-element.ensures.within c.in_ok-element.ensures.element c.from_exact_bytes.ensures.value c.from_exact_bytes.ensures.own c.from_exact_bytes.ensures.end).2

pub returns-clause-count : goal.returns-clause-count
returns-clause-count g c = c.in_ok-element.ensures.count ∙ sym (own_count c.from_exact_bytes.result _ c.from_exact_bytes.ensures.own)

pub returns-clause-kind : goal.returns-clause-kind
returns-clause-kind g c = own_kinds c.from_exact_bytes.result _ c.from_exact_bytes.ensures.own
