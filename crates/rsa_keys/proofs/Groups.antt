-- The group of an algorithm.
use Rattle.std.proofs.Common.{◌≡◌, ℕ, ◌-◌, ◌/◌, ℤ, Bool, true, false, cond, List, ◌∷◌, ◌++◌, get_or, Option, Some, Result, Ok, Err, MatchOption, refl, sym, ap, ◌∙◌, subst, arith}
use Rattle.std.proofs.lemmas.Bool.{false≢true}
use Rattle.std.proofs.lemmas.Slice.Eq.{bytes_eq-Decides}
use Rattle.std.specs.Str.{bytes_eq}
use Rattle.asn1_der.specs.Length.{digits, digits_within, element, length_octets}
use Rattle.asn1_der.specs.Octets.{bit_string_octet, integer_octet, sequence_octet}
use Rattle.asn1_der.proofs.Elements.{element-content, element-one}
use Rattle.picky_asn1_der.specs.Splits.{raw_bytes}
use Rattle.asn1_leaves.specs.ObjectIdentifier.{oid_content, subidentifier}
use Rattle.picky_asn1.specs.IntegerLaws.{integer_content-injective}
use Rattle.modular_arithmetic.specs.Naturals.{os2ip}
use Rattle.public_key_cryptography.specs.Agreements.{octets_of, prime_of, weak_group}
use Rattle.public_key_cryptography.specs.declared.group.Group.{Group}
use Rattle.public_key_cryptography.specs.declared.group.Group.TheVariants.{Modp1024, Modp2048, Modp4096}
use Rattle.public_key_cryptography.specs.declared.group.GroupRefusal.{GroupRefusal}
use Rattle.public_key_cryptography.specs.declared.group.GroupRefusal.TheVariants.{GroupTooWeak, UnknownGroup}
use Rattle.public_key_cryptography.specs.declared.group.WeakGroup.{WeakGroup}
use Rattle.public_key_cryptography.specs.declared.group.WeakGroup.TheVariants.{Refused, Taken}
use Rattle.rsa_keys.specs.Algorithms.{algorithm_content, algorithm_of, group_of, halves, integer_bytes, table_of}
use Rattle.rsa_keys.specs.Faults.{fault_of}
use Rattle.rsa_keys.specs.Reading.{Reads}
use Rattle.rsa_keys.specs.Values.{info_bytes, key_content, value_bytes}
use Rattle.rsa_keys.specs.declared.key_info.DhPublicKeyInfo.{DhPublicKeyInfo}

-- the tables are the DER of the algorithms
pub tables : (group : Group) → table_of group ≡ algorithm_of group
unfolding algorithm_content digits digits_within element length_octets oid_content subidentifier
tables Modp1024 = refl
tables Modp2048 = refl
tables Modp4096 = refl

-- q is half of the prime less 1
pub q-is : (group : Group) → os2ip (halves 0 (octets_of group)) ≡ (prime_of group - 1) / 2
unfolding prime_of
q-is Modp1024 = refl
q-is Modp2048 = refl
q-is Modp4096 = refl

differ : (a b : List ℕ) → bytes_eq a b ≡ false → a ≡ b → ⊥
differ a b e same = false≢true (sym e ∙ (bytes_eq-Decides a b).1 same)

abbrev answer : Bool → Bool → Bool → WeakGroup → Result Group GroupRefusal
answer b2 b4 b1 weak = cond b2 (Ok Modp2048) (cond b4 (Ok Modp4096) (cond b1 (weak_group weak) (Err UnknownGroup)))

none_of : (b2 b4 b1 : Bool) (weak : WeakGroup) → answer b2 b4 b1 weak ≡ Err UnknownGroup → (b2 ≡ false) × (b4 ≡ false) × (b1 ≡ false)
none_of true b4 b1 weak e = absurd (cc (e))
none_of false true b1 weak e = absurd (cc (e))
none_of false false true Refused e = absurd (cc (e))
none_of false false true Taken e = absurd (cc (e))
none_of false false false weak e = (refl, refl, refl)

weak_of : (b2 b4 b1 : Bool) (weak : WeakGroup) → answer b2 b4 b1 weak ≡ Err GroupTooWeak → (b1 ≡ true) × (weak ≡ Refused)
weak_of true b4 b1 weak e = absurd (cc (e))
weak_of false true b1 weak e = absurd (cc (e))
weak_of false false true Refused e = (refl, refl)
weak_of false false true Taken e = absurd (cc (e))
weak_of false false false weak e = absurd (cc (e))

module _ (algorithm : List ℕ) (weak : WeakGroup) where
  abbrev is_2048 : Bool
  is_2048 = bytes_eq algorithm (algorithm_of Modp2048)

  abbrev is_4096 : Bool
  is_4096 = bytes_eq algorithm (algorithm_of Modp4096)

  abbrev is_1024 : Bool
  is_1024 = bytes_eq algorithm (algorithm_of Modp1024)

  unknown_group : group_of algorithm weak ≡ Err UnknownGroup → (group : Group) → algorithm ≡ algorithm_of group → ⊥
  unknown_group e Modp1024 same = differ algorithm (algorithm_of Modp1024) (none_of is_2048 is_4096 is_1024 weak e).2 same
  unknown_group e Modp2048 same = differ algorithm (algorithm_of Modp2048) (none_of is_2048 is_4096 is_1024 weak e).0 same
  unknown_group e Modp4096 same = differ algorithm (algorithm_of Modp4096) (none_of is_2048 is_4096 is_1024 weak e).1 same

  weak_is : group_of algorithm weak ≡ Err GroupTooWeak → (algorithm ≡ algorithm_of Modp1024) × (weak ≡ Refused)
  weak_is e =
      let parts = weak_of is_2048 is_4096 is_1024 weak e in
      ((bytes_eq-Decides algorithm (algorithm_of Modp1024)).0 parts.0, parts.1)

-- elements that begin one content are the same
pub same_front : (s t : ℕ) (a b x y : List ℕ) → element sequence_octet (element s a ++ x) ≡ element sequence_octet (element t b ++ y) → (element s a ≡ element t b) × (x ≡ y)
same_front s t a b x y e =
    let parts = element-one s t a b x y (element-content sequence_octet _ _ e) in
    (λ i. element (parts.0 i) (parts.1 i), parts.2)

-- what was read is read
pub found_info : (bytes : List ℕ) (none : Type 0) (read : Option DhPublicKeyInfo) (info : DhPublicKeyInfo) → read ≡ Some info → MatchOption read none (λ i. bytes ≡ info_bytes i) → bytes ≡ info_bytes info
found_info bytes none read info e h = subst (λ o. MatchOption o none (λ i. bytes ≡ info_bytes i)) e h

-- why an algorithm's group is refused
pub refused : (info : DhPublicKeyInfo) (bytes : List ℕ) (weak : WeakGroup) (refusal : GroupRefusal) → bytes ≡ info_bytes info → group_of (raw_bytes info.algorithm) weak ≡ Err refusal
    → Reads bytes weak (Err (fault_of refusal))
refused info bytes weak UnknownGroup is e = (
  (info, is),
  λ group number other.
      unknown_group (raw_bytes info.algorithm) weak e group (same_front info.algorithm.first sequence_octet info.algorithm.content (algorithm_content group) _ _ (sym is ∙ other)).0,
)
refused info bytes weak GroupTooWeak is e =
    let known = weak_is (raw_bytes info.algorithm) weak e in
    (info.subject_public_key.0, is ∙ ap (λ algorithm. element sequence_octet (key_content algorithm info.subject_public_key.0)) known.0, known.1)

-- an algorithm is that of one group
one_group : (g h : Group) → table_of g ≡ table_of h → g ≡ h
one_group Modp1024 Modp1024 e = refl
one_group Modp1024 Modp2048 e = let third : 1 ≡ 2 = ap (λ octets. get_or octets 2 0) e in absurd (omega (arith, third))
one_group Modp1024 Modp4096 e = let third : 1 ≡ 4 = ap (λ octets. get_or octets 2 0) e in absurd (omega (arith, third))
one_group Modp2048 Modp1024 e = let third : 2 ≡ 1 = ap (λ octets. get_or octets 2 0) e in absurd (omega (arith, third))
one_group Modp2048 Modp2048 e = refl
one_group Modp2048 Modp4096 e = let third : 2 ≡ 4 = ap (λ octets. get_or octets 2 0) e in absurd (omega (arith, third))
one_group Modp4096 Modp1024 e = let third : 4 ≡ 1 = ap (λ octets. get_or octets 2 0) e in absurd (omega (arith, third))
one_group Modp4096 Modp2048 e = let third : 4 ≡ 2 = ap (λ octets. get_or octets 2 0) e in absurd (omega (arith, third))
one_group Modp4096 Modp4096 e = refl

tails : (a b : ℕ) (x y : List ℕ) → (a ∷ x) ≡ (b ∷ y) → x ≡ y
tails a b x y e = cc

-- and a SubjectPublicKeyInfo is that of one number in one group
pub same_value : (g h : Group) (y z : ℤ) → value_bytes g y ≡ value_bytes h z → (g ≡ h) × (y ≡ z)
same_value g h y z e =
    let parts = same_front sequence_octet sequence_octet (algorithm_content g) (algorithm_content h) _ _ e in
    let bits = tails 0 0 (integer_bytes y) (integer_bytes z) (element-content bit_string_octet _ _ parts.1) in
    (one_group g h (tables g ∙ parts.0 ∙ sym (tables h)), integer_content-injective y z (element-content integer_octet _ _ bits))
