-- Bit strings (X.690, sections 8.6 and 11.2): octets, of which the last ends with some unused bits.
use Rattle.std.specs.Prelude.{ℕ, ◌-◌, ◌*◌, ◌/◌, ◌%◌, ◌^◌, Bool, ◌&&◌, ◌==◌, nat_le, if◌then◌else◌, List, ◌∷◌, length, slice_index, IsTrue}
use Rattle.std.specs.Int.{bit_at}

-- a bit string: octets, and how many bits of the last are no part of it
pub record Bits : Type 0 where
  pub octets : List ℕ
  pub unused : ℕ

-- At most 7 bits are unused, and they are zero; where there is no octet none is unused (X.690, sections 8.6.2 and 11.2.1). Test:
-- `tgs bits 8 unused!`, `as bits unused not zero!`, `as bits unused of nothing!`.
abbrev pub is_bit_string : Bits → Bool
is_bit_string bits =
    nat_le bits.unused (if length bits.octets == 0 then 0 else 7)
    && (slice_index bits.octets (length bits.octets - 1) % 2 ^ bits.unused == 0)

-- the octets and the number of unused bits are those of a BIT STRING (X.690, sections 8.6 and 11.2)
abbrev pub IsBitString : Bits → Type 0
IsBitString bits = IsTrue (is_bit_string bits)

-- how many bits there are
abbrev pub bit_count : Bits → ℕ
bit_count bits = 8 * length bits.octets - bits.unused

-- Bit i, counted from the first octet's most significant. Missing bits are 0, so that flags of fewer than 32 bits are read (RFC 4120,
-- section 5.2.8). Test: `tgs short options`, `tgs ticket flags short`.
abbrev pub bit_of : Bits → ℕ → Bool
bit_of bits i = bit_at (slice_index bits.octets (i / 8)) (7 - i % 8) == 1

-- the content octets: the number of unused bits, and the octets
abbrev pub bit_content : Bits → List ℕ
bit_content bits = bits.unused ∷ bits.octets
