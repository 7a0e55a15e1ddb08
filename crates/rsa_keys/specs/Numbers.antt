-- Numbers of which bytes are the encoding.
use Rattle.std.specs.Prelude.{ℕ, pos, List, [], ◌∷◌, nat_eq, Option, Some, None, if◌then◌else◌}
use Rattle.std.specs.Str.{bytes_eq}
use Rattle.picky_asn1.specs.BitString.{Bits}
use Rattle.modular_arithmetic.specs.Naturals.{os2ip}
use Rattle.public_key_cryptography.specs.declared.group.Group.{Group}
use Rattle.rsa_keys.specs.Algorithms.{integer_bytes}
use Rattle.rsa_keys.specs.Values.{value_bytes}

-- the number with these digits or the last of them, whose encoding the bytes are
unfoldable pub number_among : (ℕ → List ℕ) → List ℕ → List ℕ → Option ℕ
number_among encoding bytes [] = None
number_among encoding bytes (digit ∷ digits) =
    if bytes_eq bytes (encoding (os2ip (digit ∷ digits))) then Some (os2ip (digit ∷ digits)) else number_among encoding bytes digits

-- the number whose encoding the bytes are, if there is one. An encoding ends with the number's digits (laws `number-is`, `number-none`)
abbrev pub number_in : (ℕ → List ℕ) → List ℕ → Option ℕ
number_in encoding bytes = number_among encoding bytes bytes

-- the number in this group, of which the bytes are the SubjectPublicKeyInfo
abbrev pub value_number : Group → List ℕ → Option ℕ
value_number group bytes = number_in (λ n. value_bytes group (pos n)) bytes

-- the number of which the bits are the DHPublicKey
abbrev pub bits_number : Bits → Option ℕ
bits_number bits = if nat_eq bits.unused 0 then number_in (λ n. integer_bytes (pos n)) bits.octets else None
