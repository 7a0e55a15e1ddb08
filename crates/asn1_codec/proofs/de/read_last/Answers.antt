use Rattle.std.proofs.Common.{◌≡◌, [], length, ap, arith, refl}
use Rattle.asn1_codec.specs.Reading.{IsReadBy, IsLastBy}
use Rattle.asn1_codec.proofs.Chain.{at-exit, refused-as, refused-after}
use Rattle.asn1_codec.proofs.Results.{handed-fault, held-value}
use Rattle.asn1_codec.proofs.de.read_last.Goals as goal

pub returns-then-is_err : goal.returns-then-is_err
returns-then-is_err g c =
    handed-fault _ _ _ _ _ _ c.is_err.ensures.value c.if-is_err.true c.read_from-value.ensures (λ fault refused.
    refused-as (IsLastBy g.T.FromDer.reads c.args.from.now.limit) (IsReadBy g.T.FromDer.reads) _ _ _ refused (λ bytes p. (p.0, p.1)))

pub returns-in_err-finish : goal.returns-in_err-finish
returns-in_err-finish g c =
    let read = held-value _ _ _ _ c.is_err.ensures.value c.if-is_err.false c.read_from-value.ensures in
    let took = read.1 in
    at-exit _ _ _ _ c.from_residual.ensures.1
    (refused-after (IsLastBy g.T.FromDer.reads c.args.from.now.limit) _ took.0 _ _ _ _ took.2 c.in_err-finish.ensures
    (λ bytes rest behind p e within.
    let one = g.T.FromDer.one_value p.0 read.0 bytes took.0 rest behind p.1 took.1 e in
    let sizes : 0 ≡ c.read_from-value.new.from.limit = omega (arith, took.2.limit, p.2, ap length one.1) in
    ([], behind, (refl, sizes), refl, omega (arith, ap length one.1))))
