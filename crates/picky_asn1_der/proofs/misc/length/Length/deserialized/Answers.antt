use Rattle.std.proofs.Common.{◌≤◌, length, take, sym, ◌∙◌, arith, refl}
use Rattle.std.proofs.lemmas.List.{length-take-le}
use Rattle.asn1_codec.proofs.Chain.{at-exit}
use Rattle.asn1_codec.proofs.Headers.{filled_size}
use Rattle.picky_asn1_der.proofs.Streams.{no_next_octet, no_next_length, next_length, wanting_next, read_part}
use Rattle.picky_asn1_der.proofs.misc.length.Length.deserialized.Goals as goal

pub returns-in_err-first-clause-fault : goal.returns-in_err-first-clause-fault
returns-in_err-first-clause-fault g c =
    at-exit _ _ _ _ c.from_residual.ensures.1 (no_next_octet (g.R.Source.left c.args.reader.now) _ c.in_err-first.ensures.fault)

pub returns-in_default-clause-fault : goal.returns-in_default-clause-fault
returns-in_default-clause-fault g c =
    no_next_length (g.R.Source.left c.args.reader.now) _ c.in_ok-first.first c.in_ok-first.ensures.octet c.in_default.ensures.count

pub returns-in_err-length-clause-fault : goal.returns-in_err-length-clause-fault
returns-in_err-length-clause-fault g c =
    let new = c.read_full.new.buffer in
    let count = c.in-Ok.count in
    let fits : count ≤ length new = c.in-Ok.ensures.bound in
    let part = length-take-le count new fits in
    let size = filled_size c.in-Some.more _ new c.in-Some.ensures.count.0 refl c.read_full.auto.buffer in
    at-exit _ _ _ _ c.from_residual-in_err-length.ensures.1
    (wanting_next (g.R.Source.left c.args.reader.now) _ _ c.in_ok-first.first c.in-Some.more (take count new) _ _ (read_part c.in_ok-first.first count new _ fits)
    c.in_ok-first.ensures.octet c.in-Ok.ensures.bytes c.in-Some.ensures.count (λ short. c.in-Ok.ensures.end (omega (arith, short, part, size)))
    c.in_err-length.ensures)

pub returns-clause-value : goal.returns-clause-value
returns-clause-value g c =
    let new = c.read_full.new.buffer in
    let count = c.in-Ok.count in
    let fits : count ≤ length new = c.in-Ok.ensures.bound in
    let part = length-take-le count new fits in
    let size = filled_size c.in-Some.more _ new c.in-Some.ensures.count.0 refl c.read_full.auto.buffer in
    next_length (g.R.Source.left c.args.reader.now) _ _ c.in_ok-first.first c.in-Some.more c.in_ok-length.length (take count new) _ c.in_ok-first.ensures.octet
    c.in-Ok.ensures.bytes c.in-Some.ensures.count (omega (arith, part, fits, size))
    (sym (read_part c.in_ok-first.first count new _ fits) ∙ c.in_ok-length.ensures.1)
