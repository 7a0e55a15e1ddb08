-- The realm's record is read as it was written.
use Rattle.std.proofs.Common.{◌≡◌, ◌==◌, ℕ, ◌+◌, ◌-◌, ◌*◌, ◌/◌, ◌%◌, ◌^◌, ◌<◌, ◌≤◌, List, [], ◌∷◌, ◌++◌, length, length-append, length-drop, drop, take, slice_index, Option, None, Some, refl, ap, sym, subst, ◌∙◌, arith, le-ltb, eq-eqb, ◌&&◌, nat_le, true, false, Bool, if◌then◌else◌}
use Rattle.std.proofs.Math.Seq.{drop-append-add, drop-append_seam, take-append_seam}
use Rattle.std.proofs.lemmas.Bool.{le-leb, and_parts, leb-true}
use Rattle.std.proofs.lemmas.List.{take_all}
use Rattle.byteorder.specs.Numbers.{little_number-reads_back}
use Rattle.byte_streams.specs.Numbers.{le32, le32_at}
use Rattle.krb_realm_accounts.specs.Names.{is_realm_name}
use Rattle.krb_realm_accounts.specs.Settings.{AreSettings, SettingsRecord}
use Rattle.krb_realm_accounts.specs.declared.policy.Policy.{Policy}
use Rattle.krb_realm_files.specs.RealmRecords.{has_number, is_pkinit, is_policy, is_recorded, named_realm, number_if, pkinit_in, pkinit_octets, realm_bytes, realm_in, policy_number, policy_of, settings_of}
use Rattle.krb_realm_files.specs.declared.realm_parameters.RealmParameters.{RealmParameters}

-- Settings that are in their ranges, and others.
pub settled : (skew lifetime policy : ℕ) → AreSettings skew lifetime → is_policy policy ≡ true
    → settings_of skew lifetime policy ≡ Some (record { skew = skew; lifetime = lifetime; policy = policy_of policy })
settled skew lifetime policy are known = rw (le-leb skew 86400 are.0, le-leb 1 lifetime are.1.0, le-leb lifetime 31536000 are.1.1, known) refl

-- Whether they are in their ranges, and the settings if they are.
abbrev in_range : ℕ → ℕ → Bool
in_range skew lifetime = nat_le skew 86400 && nat_le 1 lifetime && nat_le lifetime 31536000

abbrev settings_if : Bool → ℕ → ℕ → ℕ → Option SettingsRecord
settings_if are skew lifetime policy = if are then Some (record { skew = skew; lifetime = lifetime; policy = policy_of policy }) else None

pub unsettled : (skew lifetime policy : ℕ) → (AreSettings skew lifetime → ⊥) → None ≡ settings_of skew lifetime policy
unsettled skew lifetime policy none = by (in_range skew lifetime) refl
  where
    by : (are : Bool) → in_range skew lifetime ≡ are → None ≡ settings_if (are && is_policy policy) skew lifetime policy
    by true e =
        let first = and_parts (nat_le skew 86400 && nat_le 1 lifetime) (nat_le lifetime 31536000) e in
        let second = and_parts (nat_le skew 86400) (nat_le 1 lifetime) first.0 in
        absurd (none (leb-true skew 86400 second.0, (leb-true 1 lifetime second.1, leb-true lifetime 31536000 first.1)))
    by false e = refl

-- No policy has another number.
pub unknown_policy : (skew lifetime policy : ℕ) → is_policy policy ≡ false → None ≡ settings_of skew lifetime policy
unknown_policy skew lifetime policy other = rw other (by (in_range skew lifetime))
  where
    by : (are : Bool) → None ≡ settings_if (are && false) skew lifetime policy
    by true = refl
    by false = refl

-- The policy is read as it was written.
abbrev one_if : Bool → ℕ
one_if is = number_if is 1

one_most : (is : Bool) → one_if is ≤ 1
one_most true = omega arith
one_most false = omega arith

twice : (is : Bool) → number_if is 2 ≡ 2 * one_if is
twice true = refl
twice false = refl

four_times : (is : Bool) → number_if is 4 ≡ 4 * one_if is
four_times true = refl
four_times false = refl

eight_times : (is : Bool) → number_if is 8 ≡ 8 * one_if is
eight_times true = refl
eight_times false = refl

many_times : (is : Bool) → number_if is 536870912 ≡ 536870912 * one_if is
many_times true = refl
many_times false = refl

bit_is : (is : Bool) (bit : ℕ) → bit ≡ one_if is → (bit == 1) ≡ is
bit_is true bit e = eq-eqb bit 1 e
bit_is false bit e = subst (λ b. (b == 1) ≡ false) (sym e) refl

module _ (limits forwardable proxiable agility sha1 : Bool) (life : ℕ) where
  abbrev added : ℕ
  added = number_if limits 1 + number_if forwardable 2 + number_if proxiable 4 + number_if agility 8 + life * 16 + number_if sha1 536870912

  added_is : added ≡ one_if limits + 2 * one_if forwardable + 4 * one_if proxiable + 8 * one_if agility + life * 16 + 536870912 * one_if sha1
  added_is = omega (arith, twice forwardable, four_times proxiable, eight_times agility, many_times sha1)

  first_bit : added / 1 % 2 ≡ one_if limits
  first_bit = omega (arith, added_is, one_most limits, one_most forwardable, one_most proxiable, one_most agility, one_most sha1)

  second_bit : added / 2 % 2 ≡ one_if forwardable
  second_bit = omega (arith, added_is, one_most limits, one_most forwardable, one_most proxiable, one_most agility, one_most sha1)

  third_bit : added / 4 % 2 ≡ one_if proxiable
  third_bit = omega (arith, added_is, one_most limits, one_most forwardable, one_most proxiable, one_most agility, one_most sha1)

  fourth_bit : added / 8 % 2 ≡ one_if agility
  fourth_bit = omega (arith, added_is, one_most limits, one_most forwardable, one_most proxiable, one_most agility, one_most sha1)

  few_below : life ≤ 31536000 → added % 536870912 ≡ one_if limits + 2 * one_if forwardable + 4 * one_if proxiable + 8 * one_if agility + life * 16
  few_below few = omega (arith, added_is, few, one_most limits, one_most forwardable, one_most proxiable, one_most agility, one_most sha1)

  seconds_left : life ≤ 31536000 → added % 536870912 / 16 ≡ life
  seconds_left few = omega (arith, few_below few, one_most limits, one_most forwardable, one_most proxiable, one_most agility)

  last_left : life ≤ 31536000 → added / 536870912 ≡ one_if sha1
  last_left few = omega (arith, added_is, few, one_most limits, one_most forwardable, one_most proxiable, one_most agility, one_most sha1)

  last_bit : life ≤ 31536000 → added / 536870912 % 2 ≡ one_if sha1
  last_bit few = omega (arith, last_left few, one_most sha1)

  few_added : life ≤ 31536000 → added < 2 ^ 32
  few_added few = omega (arith, added_is, few, one_most limits, one_most forwardable, one_most proxiable, one_most agility, one_most sha1)

module _ (policy : Policy) (is : has_number policy ≡ true) where
  few_seconds : policy.renewable_life ≤ 31536000
  few_seconds = leb-true policy.renewable_life 31536000 is

  policy_again : policy_of (policy_number policy) ≡ policy
  policy_again = λ i. record {
    limits_des3 = bit_is policy.limits_des3 (policy_number policy / 1 % 2)
        (first_bit policy.limits_des3 policy.forwardable policy.proxiable policy.pkinit_agility policy.pkinit_sha1 policy.renewable_life) i;
    forwardable = bit_is policy.forwardable (policy_number policy / 2 % 2)
        (second_bit policy.limits_des3 policy.forwardable policy.proxiable policy.pkinit_agility policy.pkinit_sha1 policy.renewable_life) i;
    proxiable = bit_is policy.proxiable (policy_number policy / 4 % 2)
        (third_bit policy.limits_des3 policy.forwardable policy.proxiable policy.pkinit_agility policy.pkinit_sha1 policy.renewable_life) i;
    renewable_life = seconds_left policy.limits_des3 policy.forwardable policy.proxiable policy.pkinit_agility policy.pkinit_sha1 policy.renewable_life few_seconds i;
    pkinit_agility = bit_is policy.pkinit_agility (policy_number policy / 8 % 2)
        (fourth_bit policy.limits_des3 policy.forwardable policy.proxiable policy.pkinit_agility policy.pkinit_sha1 policy.renewable_life) i;
    pkinit_sha1 = bit_is policy.pkinit_sha1 (policy_number policy / 536870912 % 2)
        (last_bit policy.limits_des3 policy.forwardable policy.proxiable policy.pkinit_agility policy.pkinit_sha1 policy.renewable_life few_seconds) i;
  }

  policy_known : is_policy (policy_number policy) ≡ true
  policy_known =
      let life : ℕ = policy.renewable_life in
      let seconds : policy_number policy % 536870912 / 16 ≡ life =
      seconds_left policy.limits_des3 policy.forwardable policy.proxiable policy.pkinit_agility policy.pkinit_sha1 life few_seconds in
      let last : policy_number policy / 536870912 ≡ one_if policy.pkinit_sha1 =
      last_left policy.limits_des3 policy.forwardable policy.proxiable policy.pkinit_agility policy.pkinit_sha1 life few_seconds in
      rw (
        le-leb (policy_number policy / 536870912) 1 (omega (arith, last, one_most policy.pkinit_sha1)),
        le-leb (policy_number policy % 536870912 / 16) 31536000 (omega (arith, seconds, few_seconds)),
      ) refl

  policy_small : policy_number policy < 2 ^ 32
  policy_small = few_added policy.limits_des3 policy.forwardable policy.proxiable policy.pkinit_agility policy.pkinit_sha1 policy.renewable_life few_seconds

-- What logins by certificate are answered by is read as it was written, and fits the record.
pkinit_again : (pkinit : Option (List ℕ)) → is_pkinit pkinit ≡ true → pkinit_in (pkinit_octets pkinit) ≡ pkinit
pkinit_again None is = refl
pkinit_again (Some []) is = absurd (cc (is))
pkinit_again (Some (octet ∷ octets)) is = refl

pkinit_few : (pkinit : Option (List ℕ)) → is_pkinit pkinit ≡ true → length (pkinit_octets pkinit) ≤ 7920
pkinit_few None is = omega arith
pkinit_few (Some octets) is = leb-true (length octets) 7920 (and_parts (nat_le 1 (length octets)) (nat_le (length octets) 7920) is).1

-- What is behind a front, and in between.
behind : (front middle rest : List ℕ) → drop (length front + length middle) (front ++ (middle ++ rest)) ≡ rest
behind front middle rest = drop-append-add front (middle ++ rest) (length middle) ∙ drop-append_seam middle rest

between : (front middle rest : List ℕ) → take (length middle) (drop (length front) (front ++ (middle ++ rest))) ≡ middle
between front middle rest = ap (take (length middle)) (drop-append_seam front (middle ++ rest)) ∙ take-append_seam middle rest

whole : (octets name own : List ℕ) (skew lifetime size policy : ℕ) → 17 + size ≤ length octets → slice_index octets 0 ≡ 1 → le32_at 9 octets ≡ size → le32_at 13 octets ≡ policy
    → le32_at 1 octets ≡ skew → le32_at 5 octets ≡ lifetime → drop (17 + size) octets ≡ name → take size (drop 17 octets) ≡ own
    → realm_in octets ≡ named_realm name (settings_of skew lifetime policy) (pkinit_in own)
unfolding realm_in
whole octets name own skew lifetime size policy enough version sized flags first second rest part =
    let some : 17 ≤ length octets = omega (arith, enough) in
    rw (le-ltb (length octets) 17 some, eq-eqb (slice_index octets 0) 1 version, flags, sized, le-ltb (length octets) (17 + size) enough, first, second, rest, part) refl

-- A record is read part by part: its settings, what logins by certificate are answered by, and its name.
pub by_parts : (octets : List ℕ) (size counted left : ℕ) (settings : SettingsRecord) (own : Option (List ℕ)) → 17 ≤ length octets → size ≤ length octets - 17
    → slice_index octets 0 ≡ 1 → size ≡ le32_at 9 octets → counted ≡ size → length octets - (17 + size) ≤ left
    → Some settings ≡ settings_of (le32_at 1 octets) (le32_at 5 octets) (le32_at 13 octets) → own ≡ pkinit_in (take counted (drop 17 octets))
    → realm_in octets ≡ named_realm (take left (drop (17 + size) octets)) (Some settings) own
by_parts octets size counted left settings own enough room version sized same all set part =
    let rest : List ℕ = drop (17 + size) octets in
    let middle : List ℕ = take size (drop 17 octets) in
    let name : take left rest ≡ rest = take_all left rest (omega (arith, all, length-drop (17 + size) octets)) in
    whole octets (take left rest) middle (le32_at 1 octets) (le32_at 5 octets) size (le32_at 13 octets) (omega arith) version (sym sized) refl refl refl (sym name) refl
    ∙ ap (λ (read : Option SettingsRecord). named_realm (take left rest) read (pkinit_in middle)) (sym set)
    ∙ ap (λ (read : Option (List ℕ)). named_realm (take left rest) (Some settings) read) (ap (λ (n : ℕ). pkinit_in (take n (drop 17 octets))) (sym same) ∙ sym part)

pub realm_as_written : (realm : RealmParameters) → is_recorded realm ≡ true → AreSettings realm.settings.skew realm.settings.lifetime → realm_in (realm_bytes realm) ≡ Some realm
unfolding realm_bytes le32 le32_at
realm_as_written realm is are =
    let skew : ℕ = realm.settings.skew in
    let lifetime : ℕ = realm.settings.lifetime in
    let own : List ℕ = pkinit_octets realm.pkinit in
    let size : ℕ = length own in
    let three = and_parts (is_realm_name realm.name && is_pkinit realm.pkinit) (has_number realm.settings.policy) is in
    let both = and_parts (is_realm_name realm.name) (is_pkinit realm.pkinit) three.0 in
    let few : size ≤ 7920 = pkinit_few realm.pkinit both.1 in
    let policy : ℕ = policy_number realm.settings.policy in
    let small : policy < 2 ^ 32 = policy_small realm.settings.policy three.1 in
    let known : is_policy policy ≡ true = policy_known realm.settings.policy three.1 in
    let front : List ℕ = 1 ∷ (le32 skew ++ (le32 lifetime ++ (le32 size ++ le32 policy))) in
    let long : length (realm_bytes realm) ≡ 17 + length (own ++ realm.name) = length-append front (own ++ realm.name) in
    whole (realm_bytes realm) realm.name own skew lifetime size policy (omega (arith, long, length-append own realm.name)) refl
    (little_number-reads_back 4 size (le32 policy ++ (own ++ realm.name)) (omega (arith, few)))
    (little_number-reads_back 4 policy (own ++ realm.name) (omega (arith, small)))
    (little_number-reads_back 4 skew (le32 lifetime ++ (le32 size ++ (le32 policy ++ (own ++ realm.name)))) (omega (arith, are.0)))
    (little_number-reads_back 4 lifetime (le32 size ++ (le32 policy ++ (own ++ realm.name))) (omega (arith, are.1.1)))
    (behind front own realm.name) (between front own realm.name)
    ∙ rw (settled skew lifetime policy are known, both.0, pkinit_again realm.pkinit both.1, policy_again realm.settings.policy three.1) refl
