use Rattle.asn1_codec.proofs.NamedLemmas.{named-front}
use Rattle.asn1_codec.proofs.de.from_bytes.Goals as goal

pub returns-in-Err-clause-value : goal.returns-in-Err-clause-value
returns-in-Err-clause-value g c =
    let t = g.T.FromDer in
    (named-front t.seen t.reads t.is_element c.args.input.now c.in-Err.fault c.named.result c.in-Err.ensures.value c.in-Err.ensures.own c.named.ensures).0

pub returns-in-Err-clause-own : goal.returns-in-Err-clause-own
returns-in-Err-clause-own g c =
    let t = g.T.FromDer in
    (named-front t.seen t.reads t.is_element c.args.input.now c.in-Err.fault c.named.result c.in-Err.ensures.value c.in-Err.ensures.own c.named.ensures).1

pub returns-in-Err-clause-end : goal.returns-in-Err-clause-end
returns-in-Err-clause-end g c =
    let t = g.T.FromDer in
    (named-front t.seen t.reads t.is_element c.args.input.now c.in-Err.fault c.named.result c.in-Err.ensures.value c.in-Err.ensures.own c.named.ensures).2
