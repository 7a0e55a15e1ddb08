-- AlgorithmIdentifiers of Diffie-Hellman public values (RFC 3279, section 2.3.3).
use Rattle.std.specs.Prelude.{ℕ, ◌+◌, ◌*◌, ◌/◌, ◌%◌, ℤ, List, [], ◌∷◌, ◌++◌, Result, Ok, Err, if◌then◌else◌}
use Rattle.std.specs.Str.{bytes_eq}
use Rattle.asn1_der.specs.Length.{element}
use Rattle.asn1_der.specs.Octets.{integer_octet, object_identifier_octet, sequence_octet}
use Rattle.asn1_leaves.specs.ObjectIdentifier.{oid_content}
use Rattle.picky_asn1.specs.Integer.{integer_content}
use Rattle.public_key_cryptography.specs.Agreements.{octets_of, weak_group}
use Rattle.public_key_cryptography.specs.declared.group.Group.{Group}
use Rattle.public_key_cryptography.specs.declared.group.Group.TheVariants.{Modp1024, Modp2048, Modp4096}
use Rattle.public_key_cryptography.specs.declared.group.GroupRefusal.{GroupRefusal}
use Rattle.public_key_cryptography.specs.declared.group.GroupRefusal.TheVariants.{UnknownGroup}
use Rattle.public_key_cryptography.specs.declared.group.WeakGroup.{WeakGroup}
use Rattle.rsa_keys.specs.declared.algorithm.TheConstants.{ALGORITHM_1024, ALGORITHM_2048, ALGORITHM_4096}

-- an INTEGER as DER
abbrev pub integer_bytes : ℤ → List ℕ
integer_bytes number = element integer_octet (integer_content number)

-- the octets of half of a number, after a bit; a last bit is dropped
abbrev pub halves : ℕ → List ℕ → List ℕ
halves bit [] = []
halves bit (octet ∷ octets) = (bit * 128 + octet / 2) ∷ halves (octet % 2) octets

-- DomainParameters of a group: p is the prime, g is 2, and q is half of the prime less 1 (law `q-is`). There is neither j nor
-- validationParms (RFC 3279, section 2.3.3; RFC 4556, section 3.2.1). The first bit of each prime is 1, so a zero octet is in front of it
abbrev pub parameters_of : Group → List ℕ
parameters_of group =
    element sequence_octet (element integer_octet (0 ∷ octets_of group) ++ element integer_octet (2 ∷ []) ++ element integer_octet (halves 0 (octets_of group)))

-- dhpublicnumber: 1.2.840.10046.2.1
abbrev pub dh_public_number : List ℕ
dh_public_number = 1 ∷ 2 ∷ 840 ∷ 10046 ∷ 2 ∷ 1 ∷ []

-- the content of the AlgorithmIdentifier of a group's public values
unfoldable pub algorithm_content : Group → List ℕ
algorithm_content group = element object_identifier_octet (oid_content dh_public_number) ++ parameters_of group

-- the AlgorithmIdentifier of a group's public values, as DER
abbrev pub algorithm_of : Group → List ℕ
algorithm_of group = element sequence_octet (algorithm_content group)

-- the AlgorithmIdentifier of a group's public values as the program holds it (law `tables`)
abbrev pub table_of : Group → List ℕ
table_of Modp1024 = ALGORITHM_1024
table_of Modp2048 = ALGORITHM_2048
table_of Modp4096 = ALGORITHM_4096

-- the group of an AlgorithmIdentifier
abbrev pub group_of : List ℕ → WeakGroup → Result Group GroupRefusal
group_of algorithm weak =
    if bytes_eq algorithm (algorithm_of Modp2048) then Ok Modp2048
    else if bytes_eq algorithm (algorithm_of Modp4096) then Ok Modp4096
    -- The 1024-bit group is refused, unless it is asked for (RFC 4556, section 3.2.1). Test: `read GroupTooWeak`, `read 2`.
    else if bytes_eq algorithm (algorithm_of Modp1024) then weak_group weak
    -- The algorithm is dhpublicnumber with p, g and q of a known group (RFC 3279, section 2.3.3). Test: `read UnknownGroup`.
    else Err UnknownGroup
