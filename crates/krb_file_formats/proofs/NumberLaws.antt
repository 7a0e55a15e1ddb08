-- A number of four octets is read where it was written, and its octets are there where it is read.
use Rattle.std.proofs.Common.{◌≡◌, ℕ, ◌+◌, ◌^◌, ◌<◌, ◌≤◌, List, ◌++◌, length, get_or, take, drop, refl, ap, sym, ◌∙◌, arith}
use Rattle.std.proofs.lemmas.List.{places, get_or-drop}
use Rattle.std.proofs.lemmas.Nat.{be_bytes_4}
use Rattle.std.specs.Int.{w32, from_be_bytes}
use Rattle.byteorder.specs.Endian.{big_number}
use Rattle.byteorder.specs.Numbers.{big_from-take, big_from-lt, big_number-reads_back}
use Rattle.byte_streams.specs.Numbers.{be16, be16_at}
use Rattle.byte_streams.proofs.NumberLaws.{AreBytes, bytes-cut, be16-stands}
use Rattle.krb_file_formats.specs.Numbers.{be32, be32_at}

pub length-be32 : (n : ℕ) → length (be32 n) ≡ 4
unfolding be32
length-be32 n = refl

-- a number that was written in front of more is read
pub be16-first : (place n : ℕ) (more whole : List ℕ) → drop place whole ≡ be16 n ++ more → n < 2 ^ 16 → be16_at place whole ≡ n
unfolding be16 be16_at
be16-first place n more whole is fits = ap (big_number 2) is ∙ big_number-reads_back 2 n more fits

pub be32-first : (place n : ℕ) (more whole : List ℕ) → drop place whole ≡ be32 n ++ more → n < 2 ^ 32 → be32_at place whole ≡ n
unfolding be32 be32_at
be32-first place n more whole is fits = ap (big_number 4) is ∙ big_number-reads_back 4 n more fits

-- the number at a place is the one at the start of what is behind
pub be32_at-drop : (place : ℕ) (whole more : List ℕ) → drop place whole ≡ more → be32_at place whole ≡ be32_at 0 more
unfolding be32_at
be32_at-drop place whole more is = ap (big_number 4) is

length-front : (whole : List ℕ) (place size : ℕ) → place + size ≤ length whole → length (take size (drop place whole)) ≡ size
length-front whole place size inside = grind (arith, places)

be32-std : (bytes : List ℕ) → big_number 4 bytes ≡ from_be_bytes w32 (take 4 bytes)
be32-std bytes =
    let same : (b : List ℕ) → big_number 4 b ≡ from_be_bytes w32 b = λ b. omega arith in
    sym (big_from-take 0 4 4 bytes (omega arith)) ∙ same (take 4 bytes)

-- the octets of a number that is read are there
pub be16-there : (place : ℕ) (whole : List ℕ) → AreBytes whole → place + 2 ≤ length whole → be16 (be16_at place whole) ≡ take 2 (drop place whole)
unfolding be16 be16_at
be16-there place whole bytes inside = sym (be16-stands place (be16_at place whole) whole bytes inside refl)

pub be32-there : (place : ℕ) (whole : List ℕ) → AreBytes whole → place + 4 ≤ length whole → be32 (be32_at place whole) ≡ take 4 (drop place whole)
unfolding be32 be32_at
be32-there place whole bytes inside =
    be_bytes_4 (take 4 (drop place whole)) _ (length-front whole place 4 inside) (bytes-cut whole place 4 bytes) (be32-std (drop place whole))

bytes-behind : (whole : List ℕ) (place : ℕ) → AreBytes whole → AreBytes (drop place whole)
bytes-behind whole place bytes i =
    let same : get_or (drop place whole) i 0 ≡ get_or whole (place + i) 0 = get_or-drop place whole i 0 in
    let below = bytes (place + i) in omega arith

-- a number that is read fits its octets
pub be16-fits : (place : ℕ) (whole : List ℕ) → AreBytes whole → be16_at place whole < 2 ^ 16
unfolding be16_at
be16-fits place whole bytes = big_from-lt 0 2 (drop place whole) (λ k. omega (arith, bytes-behind whole place bytes k))

pub be32-fits : (place : ℕ) (whole : List ℕ) → AreBytes whole → be32_at place whole < 2 ^ 32
unfolding be32_at
be32-fits place whole bytes = big_from-lt 0 4 (drop place whole) (λ k. omega (arith, bytes-behind whole place bytes k))
