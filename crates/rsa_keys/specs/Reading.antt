-- What is read of public values.
use Rattle.std.specs.Prelude.{◌≡◌, ◌≢◌, ℕ, ℤ, true, false, List, Result, Ok, Err}
use Rattle.picky_asn1_der.specs.Raw.{has_low_number}
use Rattle.picky_asn1.specs.BitString.{Bits}
use Rattle.public_key_cryptography.specs.declared.group.Group.{Group}
use Rattle.public_key_cryptography.specs.declared.group.Group.TheVariants.{Modp1024}
use Rattle.public_key_cryptography.specs.declared.group.WeakGroup.{WeakGroup}
use Rattle.public_key_cryptography.specs.declared.group.WeakGroup.TheVariants.{Refused}
use Rattle.rsa_keys.specs.Algorithms.{integer_bytes}
use Rattle.rsa_keys.specs.Values.{info_bytes, is_value, value_bytes}
use Rattle.rsa_keys.specs.declared.fault.DhFault.{DhFault}
use Rattle.rsa_keys.specs.declared.fault.DhFault.TheVariants.{Memory, Unreadable, UnknownGroup, GroupTooWeak, OutOfRange}
use Rattle.rsa_keys.specs.declared.key_info.DhPublicKeyInfo.{DhPublicKeyInfo}
use Rattle.rsa_keys.specs.declared.public_value.DhPublicValue.{DhPublicValue}

-- The bytes are the DER of a SubjectPublicKeyInfo whose key is an INTEGER.
abbrev pub IsInfo : List ℕ → Type 0
IsInfo bytes = (info : DhPublicKeyInfo) × (bytes ≡ info_bytes info)

-- What is read of the DER of an element: a public value of any group, or the first reason why there is none.
abbrev pub Reads : List ℕ → WeakGroup → Result DhPublicValue DhFault → Type 0
Reads bytes weak (Ok value) = (bytes ≡ value_bytes value.group value.number) × (value.group ≡ Modp1024 → weak ≢ Refused)
-- A public value is the one DER encoding of a SubjectPublicKeyInfo whose key is an INTEGER (RFC 3279, section 2.3.3).
-- Test: `read Unreadable`.
Reads bytes weak (Err Unreadable) = (info : DhPublicKeyInfo) → has_low_number info.algorithm.first ≡ true → bytes ≢ info_bytes info
Reads bytes weak (Err UnknownGroup) = IsInfo bytes × ((group : Group) (number : ℤ) → bytes ≢ value_bytes group number)
Reads bytes weak (Err GroupTooWeak) = (number : ℤ) × (bytes ≡ value_bytes Modp1024 number) × (weak ≡ Refused)
-- A public value is a number of 2 to the prime less 2 (RFC 7919, section 5.1). Test: `read OutOfRange`.
Reads bytes weak (Err OutOfRange) =
    (group : Group) × (number : ℤ) × (bytes ≡ value_bytes group number) × (is_value group number ≡ false) × (group ≡ Modp1024 → weak ≢ Refused)
Reads bytes weak (Err Memory) = Unit {0}

-- What is read of the bits of a value of this group.
abbrev pub ReadsBits : Bits → Group → Result DhPublicValue DhFault → Type 0
ReadsBits bits group (Ok value) = (bits ≡ record { octets = integer_bytes value.number; unused = 0 }) × (value.group ≡ group)
-- The bits of a public value are the one DER encoding of an INTEGER, none unused (RFC 4556, section 3.2.3.1). Test: `bits Unreadable`.
ReadsBits bits group (Err Unreadable) = (number : ℤ) → bits ≢ record { octets = integer_bytes number; unused = 0 }
ReadsBits bits group (Err UnknownGroup) = ⊥
ReadsBits bits group (Err GroupTooWeak) = ⊥
-- A public value in bits is a number of 2 to the prime less 2 (RFC 7919, section 5.1). Test: `bits OutOfRange`.
ReadsBits bits group (Err OutOfRange) = (number : ℤ) × (bits ≡ record { octets = integer_bytes number; unused = 0 }) × (is_value group number ≡ false)
ReadsBits bits group (Err Memory) = Unit {0}
