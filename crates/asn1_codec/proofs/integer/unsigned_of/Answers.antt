use Rattle.std.proofs.Common.{◌+◌, ◌*◌, ◌^◌, ◌≤◌, ap, subst, ◌∙◌, arith}
use Rattle.std.specs.Int.Digits.{number_from_digits}
use Rattle.std.proofs.lemmas.Int.Digits.{number_more}
use Rattle.std.proofs.lemmas.List.{take_all}
use Rattle.asn1_codec.specs.Unsigned.{IsUnsigned, unsigned_content}
use Rattle.asn1_codec.proofs.Chain.{at-exit}
use Rattle.asn1_codec.proofs.UnsignedLemmas.{IsUnsigned-unsigned_content, content-octets, too_great}
use Rattle.asn1_codec.proofs.integer.unsigned_of.Goals as goal

pub returns-in_err-check_unsigned : goal.returns-in_err-check_unsigned
returns-in_err-check_unsigned c =
    at-exit _ _ _ _ c.from_residual.ensures.1
    (c.in_err-check_unsigned.ensures.0, λ n most e. c.in_err-check_unsigned.ensures.1 (subst IsUnsigned e (IsUnsigned-unsigned_content n)))

pub returns-in_default : goal.returns-in_default
returns-in_default c =
    let front = number_more 256 c.args.content.now c.loop-octet.octet-index c.loop-octet-test.true in
    let great : 2 ^ 128 ≤ c.loop-octet.number * 256 = omega (arith, c.in_default.ensures) in
    too_great c.args.content.now c.args.most (c.loop-octet.octet-index + 1) c.in_ok-check_unsigned.ensures (omega (arith, front, great, c.ranges.most.fits))

pub loop-octet-preserved : goal.loop-octet-preserved
loop-octet-preserved c =
    let front = number_more 256 c.args.content.now c.loop-octet.octet-index c.loop-octet-test.true in
    omega (arith, front, c.in-Some.ensures.1)

pub returns-then-number-most : goal.returns-then-number-most
returns-then-number-most c =
    too_great c.args.content.now c.args.most c.loop-octet.octet-index c.in_ok-check_unsigned.ensures (omega arith)

pub returns : goal.returns
returns c =
    let octets = c.args.content.now in
    let number = c.loop-octet.invariant ∙ ap (number_from_digits 256) (take_all c.loop-octet.octet-index octets c.loop-octet-test.false) in
    (omega arith, ap unsigned_content number ∙ content-octets octets c.type_inv.content c.in_ok-check_unsigned.ensures)
