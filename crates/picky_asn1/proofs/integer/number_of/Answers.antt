use Rattle.std.proofs.Common.{arith}
use Rattle.picky_asn1.proofs.IntegerLemmas.{next_digit}
use Rattle.picky_asn1.proofs.integer.number_of.Goals as goal

pub overflow_mul-number : goal.overflow_mul-number
overflow_mul-number c =
    let kept = c.loop-octet.invariant in
    let next = next_digit c.args.complemented c.args.octets.now c.loop-octet.octet-index c.loop-octet.number c.digit_of-digit.result c.loop-octet-test.true c.requires c.digit_of-digit.ensures c.digit_of-digit.type_inv kept.0 kept.1 in
    record { fits = omega (arith, next.fits) }

pub overflow_add-number : goal.overflow_add-number
overflow_add-number c =
    let kept = c.loop-octet.invariant in
    let next = next_digit c.args.complemented c.args.octets.now c.loop-octet.octet-index c.loop-octet.number c.digit_of-digit.result c.loop-octet-test.true c.requires c.digit_of-digit.ensures c.digit_of-digit.type_inv kept.0 kept.1 in
    record { fits = next.fits }

pub loop-octet-preserved : goal.loop-octet-preserved
loop-octet-preserved c =
    let kept = c.loop-octet.invariant in
    let next = next_digit c.args.complemented c.args.octets.now c.loop-octet.octet-index c.loop-octet.number c.digit_of-digit.result c.loop-octet-test.true c.requires c.digit_of-digit.ensures c.digit_of-digit.type_inv kept.0 kept.1 in
    (next.is, next.bound)
