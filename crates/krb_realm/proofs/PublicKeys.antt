-- Public values are public keys of agreements.
use Rattle.std.proofs.Common.{◌≡◌, ℕ, ◌%◌, ◌-◌, ℤ, true, List, ◌++◌, length, get_or, cond, eqb, leb, sym, ap, ◌∙◌, arith}
use Rattle.std.proofs.lemmas.Bool.{and_from, eq-eqb, le-leb}
use Rattle.std.proofs.lemmas.List.{append-nil}
use Rattle.asn1_der.specs.Length.{element}
use Rattle.asn1_der.specs.Octets.{bit_string_octet, sequence_octet}
use Rattle.asn1_der.proofs.Leaf.{der-leaf, whole-leaf}
use Rattle.picky_asn1.specs.BitString.{Bits, bit_content, is_bit_string}
use Rattle.public_key_cryptography.specs.declared.group.Group.{Group}
use Rattle.rsa_keys.specs.Algorithms.{algorithm_content, algorithm_of, integer_bytes}
use Rattle.rsa_keys.specs.Values.{value_element}
use Rattle.pkinit_validation.specs.PublicKeys.{IsPublicKey}
use Rattle.pkinit_validation.specs.declared.public_key.AgreementPublicKey.{AgreementPublicKey}

-- the bits of a number, of which none is unused
abbrev pub bits_of : ℤ → Bits
bits_of number = record { octets = integer_bytes number; unused = 0 }

abbrev pub key_of : Group → ℤ → AgreementPublicKey
key_of group number = record { algorithm = record { first = sequence_octet; content = algorithm_content group }; subject_public_key = bits_of number }

are_bits : (octets : List ℕ) → is_bit_string (record { octets = octets; unused = 0 }) ≡ true
are_bits octets =
    let most : ℕ = cond (eqb (length octets) 0) 0 7 in
    let last : ℕ = get_or octets (length octets - 1) 0 in
    let whole : last % 1 ≡ 0 = omega arith in
    and_from (leb 0 most) (eqb (last % 1) 0) (le-leb 0 most (omega arith)) (eq-eqb (last % 1) 0 whole)

pub is_public_key : (group : Group) (number : ℤ) → IsPublicKey (value_element group number) (key_of group number)
unfolding IsPublicKey
is_public_key group number =
    let valid : is_bit_string (bits_of number) ≡ true = are_bits (integer_bytes number) in
    let bits : List ℕ = element bit_string_octet (bit_content (bits_of number)) in (
      (tt, (whole-leaf (is_bit_string (bits_of number)) bit_string_octet (bit_content (bits_of number)) valid, tt)),
      sym (ap (λ tail. element sequence_octet (algorithm_of group ++ tail)) (append-nil _ ∙ der-leaf (is_bit_string (bits_of number)) bit_string_octet (bit_content (bits_of number)) valid)),
    )
