-- The sign of a number.
use Rattle.std.proofs.Common.{◌≡◌, ◌-◌, ltb, get_or, length, arith, ℤ, pos, negsuc}
use Rattle.std.proofs.lemmas.Bool.{lt-ltb, le-ltb}
use Rattle.std.specs.Int.Digits.{digits_of}
use Rattle.picky_asn1.specs.Integer.{integer_content, natural_octets}
use Rattle.picky_asn1.specs.IntegerLaws.{sign-with_sign}
use Rattle.rsa_keys.specs.Values.{is_natural}

-- the first octet says it
pub sign-is : (z : ℤ) → ltb (get_or (integer_content z) 0 0) 128 ≡ is_natural z
unfolding integer_content natural_octets
sign-is (pos n) = let sign = sign-with_sign (digits_of 256 n) in rw sign.is (lt-ltb sign.first 128 sign.low)
sign-is (negsuc n) = let sign = sign-with_sign (digits_of 256 n) in rw sign.is (le-ltb (255 - sign.first) 128 (omega (arith, sign.low)))

-- and is always there
pub has_octet : (z : ℤ) → length (integer_content z) ≡ 0 → ⊥
unfolding integer_content natural_octets
has_octet (pos n) e = let sign = sign-with_sign (digits_of 256 n) in let f = rw sign.is at e in omega (arith, f)
has_octet (negsuc n) e = let sign = sign-with_sign (digits_of 256 n) in let f = rw sign.is at e in omega (arith, f)
