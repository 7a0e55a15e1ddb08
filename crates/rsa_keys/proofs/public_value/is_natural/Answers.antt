use Rattle.std.proofs.Common.{◌≡◌, length, ltb, get_or, ap, sym, ◌∙◌, arith}
use Rattle.rsa_keys.proofs.Signs.{has_octet, sign-is}
use Rattle.rsa_keys.proofs.public_value.is_natural.Goals as goal

pub returns-in-empty : goal.returns-in-empty
returns-in-empty c =
    let none : length c.as_signed_bytes_be.result.now ≡ 0 = omega (arith, c.in-empty.len_below) in
    absurd (has_octet c.args.number.now (sym (ap length c.as_signed_bytes_be.ensures) ∙ none))

pub returns-in-len1-up : goal.returns-in-len1-up
returns-in-len1-up c = ap (λ octets. ltb (get_or octets 0 0) 128) c.as_signed_bytes_be.ensures ∙ sign-is c.args.number.now
