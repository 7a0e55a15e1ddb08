-- Setting a bit of a bit string changes that bit alone, and no unused one.
use Rattle.std.proofs.Common.{◌≡◌, ◌≢◌, ℕ, ◌-◌, ◌/◌, ◌%◌, ◌^◌, ◌<◌, ◌≤◌, ◌==◌, Bool, true, false, if◌then◌else◌, List, length, get_or, refl, sym, ap, ◌∙◌, inl, inr, pow_pos, arith}
use Rattle.std.proofs.Math.ListN.{set, length-set}
use Rattle.std.proofs.lemmas.List.{get_or-set_same, get_or-set_other}
use Rattle.std.proofs.lemmas.Bool.{cases_eq, eq-eqb, ne_eqb}
use Rattle.std.proofs.lemmas.Bool.Decides.{nat_tests}
use Rattle.std.proofs.lemmas.Nat.{div-add-mod'}
use Rattle.std.proofs.lemmas.Nat.Bits.{bit_at-zero, bit_at_cat_low, same_from_bits_below}
use Rattle.std.proofs.Math.Nat.{mod-lt}
use Rattle.std.specs.Int.{bit_at}
use Rattle.picky_asn1.specs.BitString.{IsBitString, bit_count, bit_of}

-- the low k bits of n are those of n % 2 ^ k
bit_at-mod : (n k i : ℕ) → i < k → bit_at n i ≡ bit_at (n % 2 ^ k) i
bit_at-mod n k i h =
    ap (λ x. bit_at x i) (sym (div-add-mod' n (2 ^ k))) ∙ bit_at_cat_low (n / 2 ^ k) k (n % 2 ^ k) i h

-- what is a multiple of 2 ^ k has no lower bits
bits-multiple : (n k : ℕ) → n % 2 ^ k ≡ 0 → (i : ℕ) → i < k → bit_at n i ≡ 0
bits-multiple n k e i h = bit_at-mod n k i h ∙ ap (λ x. bit_at x i) e ∙ bit_at-zero i

-- and what has none is one
multiple-from_bits : (n k : ℕ) → ((i : ℕ) → i < k → bit_at n i ≡ 0) → n % 2 ^ k ≡ 0
multiple-from_bits n k h =
    same_from_bits_below k (n % 2 ^ k) 0 (mod-lt n (pow_pos k)) (pow_pos k) (λ i low. sym (bit_at-mod n k i low) ∙ h i low ∙ sym (bit_at-zero i))

-- what the condition on a bit string says
few_unused : (octets : List ℕ) (unused : ℕ) → IsBitString (record { octets = octets; unused = unused }) → unused ≤ 7
few_unused octets unused h = grind (arith, nat_tests)

none_unused : (octets : List ℕ) (unused : ℕ) → IsBitString (record { octets = octets; unused = unused }) → length octets ≡ 0 → unused ≡ 0
none_unused octets unused h e = grind (arith, nat_tests)

zero_unused : (octets : List ℕ) (unused : ℕ) → IsBitString (record { octets = octets; unused = unused }) → get_or octets (length octets - 1) 0 % 2 ^ unused ≡ 0
zero_unused octets unused h = grind (arith, nat_tests)

-- and what shows it
is_bit_string : (octets : List ℕ) (unused : ℕ) → unused ≤ 7 → (length octets ≡ 0 → unused ≡ 0) → get_or octets (length octets - 1) 0 % 2 ^ unused ≡ 0 → IsBitString (record { octets = octets; unused = unused })
is_bit_string octets unused few none zeros = grind (arith, nat_tests)

-- the last octet keeps its unused bits
last_octet-set : (octets : List ℕ) (unused i octet : ℕ) → IsBitString (record { octets = octets; unused = unused }) → i < bit_count (record { octets = octets; unused = unused }) → ((k : ℕ) → k < 8 → k ≢ 7 - i % 8 → bit_at octet k ≡ bit_at (get_or octets (i / 8) 0) k) → get_or (set octets (i / 8) octet) (length octets - 1) 0 % 2 ^ unused ≡ 0
last_octet-set octets unused i octet h within other =
    let few = few_unused octets unused h in
    let zeros = zero_unused octets unused h in
    elim (cases_eq (length octets - 1) (i / 8)) [
      | inl e ↦
          let inside : i / 8 < length octets = omega arith in
          let old_zeros : get_or octets (i / 8) 0 % 2 ^ unused ≡ 0 = rw (← e) zeros in
          let new_zeros = multiple-from_bits octet unused (λ k low. other k (omega arith) (omega arith) ∙ bits-multiple (get_or octets (i / 8) 0) unused old_zeros k low) in
          rw (e, get_or-set_same octets (i / 8) octet 0 inside) new_zeros
      | inr apart ↦ rw (get_or-set_other octets (i / 8) (length octets - 1) octet 0 apart) zeros
    ]

-- so the bit string stays one
pub IsBitString-set : (octets : List ℕ) (unused i octet : ℕ) → IsBitString (record { octets = octets; unused = unused }) → i < bit_count (record { octets = octets; unused = unused }) → ((k : ℕ) → k < 8 → k ≢ 7 - i % 8 → bit_at octet k ≡ bit_at (get_or octets (i / 8) 0) k) → IsBitString (record { octets = set octets (i / 8) octet; unused = unused })
IsBitString-set octets unused i octet h within other =
    let same = length-set octets (i / 8) octet in
    is_bit_string (set octets (i / 8) octet) unused (few_unused octets unused h) (λ e. none_unused octets unused h (sym same ∙ e)) (rw same (last_octet-set octets unused i octet h within other))

-- a bit as it is set
set_bit : (value : Bool) → ((if value then 1 else 0) == 1) ≡ value
set_bit true = refl
set_bit false = refl

-- that bit has the value, and the others keep theirs
pub bit_of-set : (octets : List ℕ) (unused i octet : ℕ) (value : Bool) → i / 8 < length octets → bit_at octet (7 - i % 8) ≡ (if value then 1 else 0) → ((k : ℕ) → k < 8 → k ≢ 7 - i % 8 → bit_at octet k ≡ bit_at (get_or octets (i / 8) 0) k) → (k : ℕ) → bit_of (record { octets = set octets (i / 8) octet; unused = unused }) k ≡ (if k == i then value else bit_of (record { octets = octets; unused = unused }) k)
bit_of-set octets unused i octet value inside here other k =
    elim (cases_eq (k / 8) (i / 8)) [
      | inr apart ↦
          let other_bit : k ≢ i = λ e. apart (ap (λ n. n / 8) e) in
          rw (get_or-set_other octets (i / 8) (k / 8) octet 0 apart, ne_eqb k i other_bit) refl
      | inl same ↦
          let new_octet = get_or-set_same octets (i / 8) octet 0 inside in
          elim (cases_eq (k % 8) (i % 8)) [
            | inl place ↦
                let this_bit : k ≡ i = omega arith in
                rw (same, new_octet, eq-eqb k i this_bit, place, here) (set_bit value)
            | inr apart ↦
                let other_bit : k ≢ i = λ e. apart (ap (λ n. n % 8) e) in
                let kept = other (7 - k % 8) (omega arith) (omega arith) in
                rw (same, new_octet, ne_eqb k i other_bit, kept) refl
          ]
    ]
