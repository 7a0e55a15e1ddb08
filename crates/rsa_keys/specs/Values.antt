-- Diffie-Hellman public values as SubjectPublicKeyInfo (RFC 3279, section 2.3.3).
use Rattle.std.specs.Prelude.{ℕ, ℤ, pos, negsuc, Bool, true, false, ◌&&◌, List, ◌∷◌, ◌++◌}
use Rattle.asn1_der.specs.Length.{element}
use Rattle.asn1_der.specs.Octets.{bit_string_octet, sequence_octet}
use Rattle.picky_asn1_der.specs.Raw.{Raw}
use Rattle.picky_asn1_der.specs.Splits.{raw_bytes}
use Rattle.picky_asn1.specs.Integer.{unsigned_octets}
use Rattle.public_key_cryptography.specs.Agreements.{in_range}
use Rattle.public_key_cryptography.specs.declared.group.Group.{Group}
use Rattle.rsa_keys.specs.Algorithms.{algorithm_of, integer_bytes}
use Rattle.rsa_keys.specs.declared.key_info.DhPublicKeyInfo.{DhPublicKeyInfo}

-- a number isn't negative
abbrev pub is_natural : ℤ → Bool
is_natural (pos n) = true
is_natural (negsuc n) = false

-- the number is one of 2 to the prime less 2 (RFC 7919, section 5.1)
abbrev pub is_value : Group → ℤ → Bool
is_value group number = is_natural number && in_range group (unsigned_octets number)

-- the content of a SubjectPublicKeyInfo whose key is an INTEGER, after the DER of its algorithm. Of the BIT STRING no bit is unused
abbrev pub key_content : List ℕ → ℤ → List ℕ
key_content algorithm number = algorithm ++ element bit_string_octet (0 ∷ integer_bytes number)

-- the DER of a SubjectPublicKeyInfo whose key is an INTEGER
abbrev pub info_bytes : DhPublicKeyInfo → List ℕ
info_bytes info = element sequence_octet (key_content (raw_bytes info.algorithm) info.subject_public_key.0)

-- the SubjectPublicKeyInfo of a number in a group
abbrev pub value_element : Group → ℤ → Raw
value_element group number = record { first = sequence_octet; content = key_content (algorithm_of group) number }

-- its DER
abbrev pub value_bytes : Group → ℤ → List ℕ
value_bytes group number = raw_bytes (value_element group number)
