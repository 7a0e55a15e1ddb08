-- Agreements on a secret (RFC 4556, sections 3.2.1 and 3.2.3.1).
use Rattle.std.specs.Prelude.{◌≡◌, ℕ, ℤ, pos, Option, Some, None, if◌then◌else◌}
use Rattle.std.specs.Option.{option_and_then}
use Rattle.picky_asn1_der.specs.Raw.{Raw}
use Rattle.picky_asn1_der.specs.Splits.{raw_bytes}
use Rattle.picky_asn1.specs.BitString.{Bits}
use Rattle.picky_asn1.specs.Bytes.{Bytes}
use Rattle.picky_asn1.specs.Integer.{unsigned_octets}
use Rattle.modular_arithmetic.specs.Naturals.{os2ip}
use Rattle.public_key_cryptography.specs.Agreements.{public_of, shared_of}
use Rattle.public_key_cryptography.specs.declared.group.Group.{Group}
use Rattle.rsa_keys.specs.Algorithms.{integer_bytes}
use Rattle.rsa_keys.specs.Numbers.{bits_number, value_number}
use Rattle.rsa_keys.specs.Values.{is_value, value_bytes, value_element}
use Rattle.rsa_keys.specs.declared.public_value.DhPublicValue.{DhPublicValue}
use Rattle.x509_keys.specs.KeyFunctions.{TheirValue}
use Rattle.x509_keys.specs.KeyFunctions.TheirValue.{ValueBits, WholeValue}

-- the number of a peer's value, if it is one of this group
abbrev pub their_number : Group → TheirValue → Option ℕ
their_number group (WholeValue element) = value_number group (raw_bytes element)
their_number group (ValueBits bits) = bits_number bits

-- The secret that is shared with the peer by the own secret number. There is one for a value of the party's group in its range alone (RFC
-- 4556, sections 3.2.2 and 3.2.3.1; RFC 2631, section 2.1.5). Test: `agree 2`, `agree 14`, `agree 16`.
abbrev pub agreed : Group → TheirValue → Bytes → Option Bytes
agreed group theirs secret = option_and_then (λ number. shared_of group (unsigned_octets (pos number)) secret) (their_number group theirs)

-- 2 to the power of a secret number, modulo the prime
abbrev pub own_number : Group → Bytes → ℤ
own_number group secret = pos (os2ip (public_of group secret))

-- the SubjectPublicKeyInfo of that number, if it is one of 2 to the prime less 2
abbrev pub own_value : Group → Bytes → Option Raw
own_value group secret = if is_value group (own_number group secret) then Some (value_element group (own_number group secret)) else None

-- the bits of that number alone
abbrev pub own_bits : Group → Bytes → Bits
own_bits group secret = record { octets = integer_bytes (own_number group secret); unused = 0 }

-- the value is the peer's
pub record IsTheirs (group : Group) (theirs : TheirValue) (value : DhPublicValue) : Type 0 where
  pub number : ℕ
  pub is_number : value.number ≡ pos number
  pub is_theirs : their_number group theirs ≡ Some number

-- no secret is shared with the peer
abbrev pub IsRefused : Group → TheirValue → Type 0
IsRefused group theirs = (secret : Bytes) → agreed group theirs secret ≡ None

-- the element is the SubjectPublicKeyInfo of a number in the group
pub record IsOfGroup (group : Group) (element : Raw) : Type 0 where
  pub number : ℕ
  pub is : raw_bytes element ≡ value_bytes group (pos number)

-- each comes to the secret by the other's value: one has the whole of it, the other its bits
pub record IsAgreed (group : Group) (ours theirs : Bytes) (their_value : Raw) : Type 0 where
  pub secret : Bytes
  pub by_value : agreed group (WholeValue their_value) ours ≡ Some secret
  pub by_bits : agreed group (ValueBits (own_bits group ours)) theirs ≡ Some secret
