-- Numbers of two and four octets, the lowest first (C706, section 14.2), and of six octets, the highest first.
use Rattle.std.specs.Prelude.{ℕ, ◌+◌, nat_eq, not, Bool, List, drop, Result, Ok}
use Rattle.byteorder.specs.Endian.{big_number, little_bytes, little_number}
use Rattle.byte_streams.specs.Numbers.{le32_at}
use Rattle.krb_pac.specs.declared.error.PacFault.{PacFault}
use Rattle.krb_pac.specs.Places.{start_at}
use Rattle.krb_pac.specs.Reading.{◌>>=◌}

-- A number's two octets.
unfoldable pub le16 : ℕ → List ℕ
le16 n = little_bytes 2 n

-- The number that the two octets at a place are.
unfoldable pub le16_at : ℕ → List ℕ → ℕ
le16_at place whole = little_number 2 (drop place whole)

-- The number that the six octets at a place are, the highest first.
unfoldable pub be48_at : ℕ → List ℕ → ℕ
be48_at place whole = big_number 6 (drop place whole)

-- The number of two octets that begins at the first multiple of 2 from a place on, and the place behind it.
unfoldable pub u16_at : ℕ → List ℕ → Result (ℕ × ℕ) PacFault
u16_at place whole = do
  at ← start_at 2 place whole
  Ok (le16_at at whole, at + 2)

-- The number of four octets that begins at the first multiple of 4 from a place on, and the place behind it.
unfoldable pub u32_at : ℕ → List ℕ → Result (ℕ × ℕ) PacFault
u32_at place whole = do
  at ← start_at 4 place whole
  Ok (le32_at at whole, at + 4)

-- A null unique pointer is 0, and any other number says that a referent follows (C706, section 14.3.12). Test: `refused Null` of
-- `pac.txt`.
unfoldable pub pointer_at : ℕ → List ℕ → Result (Bool × ℕ) PacFault
pointer_at place whole = do
  identifier ← u32_at place whole
  Ok (not (nat_eq identifier.0 0), identifier.1)
