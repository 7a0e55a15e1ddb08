use Rattle.std.proofs.Common.{ℕ, ◌+◌, ◌*◌, ◌^◌, ◌<◌, ap, ◌∙◌, sym, arith, get_or}
use Rattle.std.proofs.lemmas.Int.Digits.{number_more}
use Rattle.asn1_der.proofs.Digits.{digit_fits, digit_room}
use Rattle.asn1_der.proofs.length.number_of.Goals as goal

pub overflow_mul-number : goal.overflow_mul-number
overflow_mul-number c =
    let fits : c.loop-digit.number * 256 + 0 < 2 ^ 64 = digit_room c.loop-digit.number c.loop-digit.digit-index 0 c.loop-digit.invariant.fits (omega arith) (omega arith) in
    omega arith

pub loop-digit-preserved : goal.loop-digit-preserved
loop-digit-preserved c =
    let digit = get_or c.args.digits.now c.loop-digit.digit-index 0 in
    record {
      value =
          ap (λ (n : ℕ). n * 256 + digit) c.loop-digit.invariant.value
          ∙ sym (number_more 256 c.args.digits.now c.loop-digit.digit-index c.loop-digit-test.true);
      fits = digit_fits c.loop-digit.number c.loop-digit.digit-index digit c.loop-digit.invariant.fits (let fits = c.type_inv.digits c.loop-digit.digit-index in omega arith);
    }
