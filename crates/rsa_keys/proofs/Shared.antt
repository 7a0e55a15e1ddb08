-- Two parties come to one secret.
use Rattle.std.proofs.Common.{◌≡◌, ℕ, Option, suc, ◌+◌, ◌/◌, ◌^◌, ◌%◌, ◌≤◌, pos, Bool, true, false, ◌&&◌, nat_le, nat_lt, cond, eqb, List, [], ◌∷◌, length, None, Some, refl, sym, ap, ◌∙◌, arith}
use Prim.Native.Nat.{zero}
use Rattle.std.proofs.lemmas.Bool.{and_from, and_parts, cond_both, eqb-true, le-leb}
use Rattle.std.proofs.lemmas.Int.Digits.{number_digits_of}
use Rattle.std.proofs.lemmas.List.{length-append}
use Rattle.std.specs.Int.Digits.{digits_of}
use Rattle.std.specs.Option.{option_and_then}
use Rattle.picky_asn1_der.specs.Raw.{Raw}
use Rattle.picky_asn1_der.specs.Splits.{raw_bytes}
use Rattle.picky_asn1.specs.Bytes.{Bytes}
use Rattle.picky_asn1.specs.Integer.{unsigned_octets}
use Rattle.modular_arithmetic.specs.Naturals.{i2osp, os2ip}
use Rattle.public_key_cryptography.specs.Agreements.{in_range, prime_of, public_of, shared_of, size_of}
use Rattle.public_key_cryptography.specs.declared.group.Group.{Group}
use Rattle.rsa_keys.specs.Numbers.{value_number}
use Rattle.rsa_keys.specs.Values.{is_value, value_bytes, value_element}
use Rattle.rsa_keys.proofs.Found.{bits-number, number-is, value-number}
use Rattle.x509_keys.specs.KeyFunctions.TheirValue.{WholeValue}
use Rattle.rsa_keys.specs.Agreements.{IsAgreed, IsOfGroup, agreed, own_bits, own_number, own_value}

length-i2osp : (len n : ℕ) → length (i2osp len n) ≡ len
unfolding i2osp
length-i2osp zero n = refl
length-i2osp (suc len) n = length-append (i2osp len (n / 256)) (n % 256 ∷ []) ∙ (let e : length (i2osp len (n / 256)) + 1 ≡ suc len = omega (arith, length-i2osp len (n / 256)) in e)

-- a number is that of its octets
number-unsigned : (n : ℕ) → os2ip (unsigned_octets (pos n)) ≡ n
number-unsigned n = cond_both (eqb n 0) (0 ∷ []) (digits_of 256 n) (λ octets. os2ip octets ≡ n) (λ e. sym (eqb-true n 0 e)) (λ _. number_digits_of 256 n (omega arith))

-- the range of octets is that of their number
range-same : (group : Group) (u v : List ℕ) → length v ≤ size_of group → os2ip u ≡ os2ip v → in_range group u ≡ true → in_range group v ≡ true
range-same group u v fits same inside =
    let parts = and_parts (nat_le (length u) (size_of group)) (nat_lt 1 (os2ip u) && nat_lt (os2ip u + 1) (prime_of group)) inside in
    and_from (nat_le (length v) (size_of group)) (nat_lt 1 (os2ip v) && nat_lt (os2ip v + 1) (prime_of group)) (le-leb (length v) (size_of group) fits)
    (sym (ap (λ n. nat_lt 1 n && nat_lt (n + 1) (prime_of group)) same) ∙ parts.1)

shared-inside : (group : Group) (value secret : List ℕ) → in_range group value ≡ true → shared_of group value secret ≡ Some (i2osp (size_of group) (os2ip value ^ os2ip secret % prime_of group))
shared-inside group value secret inside = ap (λ b. cond b (Some (i2osp (size_of group) (os2ip value ^ os2ip secret % prime_of group))) None) inside

pub record IsTaken (b : Bool) (made : Raw) (element : Raw) : Type 0 where
  pub holds : b ≡ true
  pub same : made ≡ element

pub taken : (b : Bool) (made element : Raw) → cond b (Some made) None ≡ Some element → IsTaken b made element
taken true made element e = record { holds = refl; same = cc (e) }
taken false made element e = absurd (cc (e))

-- the number of a public value, its octets, and what others share by it
module _ (group : Group) (secret : Bytes) (inside : is_value group (own_number group secret) ≡ true) where
  abbrev octets : List ℕ
  octets = public_of group secret

  abbrev number : ℕ
  number = os2ip octets

  pub in-range : in_range group octets ≡ true
  in-range =
      let size : length octets ≤ size_of group = omega (arith, length-i2osp (size_of group) (2 ^ os2ip secret % prime_of group)) in
      range-same group (unsigned_octets (pos number)) octets size (number-unsigned number) inside

  pub shared-same : (other : Bytes) → shared_of group (unsigned_octets (pos number)) other ≡ shared_of group octets other
  shared-same other =
      shared-inside group (unsigned_octets (pos number)) other inside
      ∙ ap (λ n. Some (i2osp (size_of group) (n ^ os2ip other % prime_of group))) (number-unsigned number)
      ∙ sym (shared-inside group octets other in-range)

-- what each comes to
pub agrees : (group : Group) (ours theirs : Bytes) (our_value their_value : Raw)
    → (in_range group (public_of group ours) ≡ true → in_range group (public_of group theirs) ≡ true → shared_of group (public_of group theirs) ours ≡ shared_of group (public_of group ours) theirs)
    → own_value group ours ≡ Some our_value → own_value group theirs ≡ Some their_value → IsAgreed group ours theirs their_value
agrees group ours theirs our_value their_value law e f =
    let our = taken (is_value group (own_number group ours)) (value_element group (own_number group ours)) our_value e in
    let their = taken (is_value group (own_number group theirs)) (value_element group (own_number group theirs)) their_value f in
    let our_range = in-range group ours our.holds in
    let their_range = in-range group theirs their.holds in
    let secret : shared_of group (public_of group theirs) ours ≡ Some (i2osp (size_of group) (os2ip (public_of group theirs) ^ os2ip ours % prime_of group)) = shared-inside group (public_of group theirs) ours their_range in
    record {
      secret = i2osp (size_of group) (os2ip (public_of group theirs) ^ os2ip ours % prime_of group);
      by_value =
          ap (λ found. option_and_then (λ n. shared_of group (unsigned_octets (pos n)) ours) found)
          (value-number group (raw_bytes their_value) (os2ip (public_of group theirs)) (ap (λ element. raw_bytes element) (sym their.same)))
          ∙ shared-same group theirs their.holds ours ∙ secret;
      by_bits =
          ap (λ found. option_and_then (λ n. shared_of group (unsigned_octets (pos n)) theirs) found) (bits-number (own_bits group ours) (os2ip (public_of group ours)) refl)
          ∙ shared-same group ours our.holds theirs ∙ sym (law our_range their_range) ∙ secret;
    }

has_number : (f : ℕ → Option Bytes) (number : Option ℕ) (secret : Bytes) → option_and_then f number ≡ Some secret → (n : ℕ) × (number ≡ Some n)
has_number f (Some n) secret e = (n, refl)
has_number f None secret e = absurd (cc (e))

-- what one shares a secret by is of the group
pub theirs_of_group : (group : Group) (theirs : Raw) (words secret : Bytes) → agreed group (WholeValue theirs) words ≡ Some secret → IsOfGroup group theirs
theirs_of_group group theirs words secret e =
    let found = has_number (λ n. shared_of group (unsigned_octets (pos n)) words) (value_number group (raw_bytes theirs)) secret e in
    record { number = found.0; is = number-is (λ n. value_bytes group (pos n)) (raw_bytes theirs) (raw_bytes theirs) found.0 found.1 }

-- and so is the own value
pub ours_of_group : (group : Group) (words : Bytes) (ours : Raw) → own_value group words ≡ Some ours → IsOfGroup group ours
ours_of_group group words ours e =
    let made = taken (is_value group (own_number group words)) (value_element group (own_number group words)) ours e in
    record { number = os2ip (public_of group words); is = ap (λ element. raw_bytes element) (sym made.same) }
