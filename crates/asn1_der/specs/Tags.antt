-- Identifier octets (X.690, section 8.1.2): the class in the bits 8 and 7, in bit 6 whether the encoding is constructed, and
-- the tag's number in the rest.
use Rattle.std.specs.Prelude.{◌≡◌, ℕ, ◌+◌, ◌*◌, ◌/◌, ◌%◌, refl}

-- bit 6 of an identifier octet
abbrev pub constructed_bit : ℕ → ℕ
constructed_bit octet = octet % 64 / 32 * 32

-- under an implicit context tag the encoding stays primitive or constructed, as it was (8.14.3)
abbrev pub implicit_octet : ℕ → ℕ → ℕ
implicit_octet first number = 128 + constructed_bit first + number % 32

implicit_octet-sequence : implicit_octet 48 1 ≡ 161
implicit_octet-sequence = refl

implicit_octet-octet_string : implicit_octet 4 0 ≡ 128
implicit_octet-octet_string = refl
