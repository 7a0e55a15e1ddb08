-- The record of the realm: octet 0 the version, octets 1 to 4 the clock skew and octets 5 to 8 the greatest lifetime of a ticket, both in
-- seconds, octets 9 to 12 how many octets logins by certificate are answered by, octets 13 to 16 the policy, then those octets, and the
-- realm's name up to the end. Of each number the lowest octet is the first. Without such octets no login by certificate is answered.
-- The policy is 0 where none is set: 1 where it limits session keys of triple DES, 2 where tickets are forwardable, 4 where they are
-- proxiable, 8 where requests by certificate have algorithm agility, 16 for each second of the greatest renewable life, and 2 to the power
-- of 29 where clients sign by SHA-1, added up.
use Rattle.std.specs.Prelude.{◌≡◌, ℕ, ◌+◌, ◌*◌, ◌/◌, ◌%◌, ◌^◌, ◌==◌, ◌||◌, ◌&&◌, nat_le, nat_lt, not, Bool, true, false, List, [], ◌∷◌, ◌++◌, length, drop, take, slice_index, Option, None, Some, refl, if◌then◌else◌}
use Rattle.byte_streams.specs.Numbers.{le32, le32_at}
use Rattle.krb_realm_accounts.specs.Names.{is_realm_name}
use Rattle.krb_realm_accounts.specs.Settings.{SettingsRecord}
use Rattle.krb_realm_accounts.specs.declared.policy.Policy.{Policy}
use Rattle.krb_realm_accounts.specs.declared.policy.TheConstants.{NO_POLICY}
use Rattle.krb_realm_accounts.specs.declared.settings.TheConstants.{LIFETIME_LIMIT, SKEW_LIMIT}
use Rattle.krb_realm_files.specs.declared.format.TheConstants.{FORWARDABLE, LIMITS_DES3, PKINIT_AGILITY, PKINIT_ROOM, PKINIT_SHA1, PROXIABLE, REALM_HEAD, RECORD_VERSION, RENEWABLE_SECOND}
use Rattle.krb_realm_files.specs.declared.realm_parameters.RealmParameters.{RealmParameters}

-- The policy of a number.
abbrev pub policy_of : ℕ → Policy
policy_of number = record {
  limits_des3 = number / LIMITS_DES3 % 2 == 1;
  forwardable = number / FORWARDABLE % 2 == 1;
  proxiable = number / PROXIABLE % 2 == 1;
  renewable_life = number % PKINIT_SHA1 / RENEWABLE_SECOND;
  pkinit_agility = number / PKINIT_AGILITY % 2 == 1;
  pkinit_sha1 = number / PKINIT_SHA1 % 2 == 1;
}

-- The number is a policy's: it is below 2 to the power of 30, and the greatest renewable life is a year at most.
abbrev pub is_policy : ℕ → Bool
is_policy number = nat_le (number / PKINIT_SHA1) 1 && nat_le (number % PKINIT_SHA1 / RENEWABLE_SECOND) LIFETIME_LIMIT

-- What a number has for something that is so or isn't.
abbrev pub number_if : Bool → ℕ → ℕ
number_if is number = if is then number else 0

-- The number of a policy.
abbrev pub policy_number : Policy → ℕ
policy_number policy =
    number_if policy.limits_des3 LIMITS_DES3 + number_if policy.forwardable FORWARDABLE + number_if policy.proxiable PROXIABLE
    + number_if policy.pkinit_agility PKINIT_AGILITY + policy.renewable_life * RENEWABLE_SECOND + number_if policy.pkinit_sha1 PKINIT_SHA1

-- worked: the numbers 0 and 1, which alone a database from before these policies has, are read as they were
no_policy : policy_of 0 ≡ NO_POLICY
no_policy = refl

triple_des_alone : policy_of 1 ≡ record NO_POLICY { limits_des3 = true }
triple_des_alone = refl

both_known : (is_policy 0 && is_policy 1) ≡ true
both_known = refl

-- worked: a week is a policy's renewable life, and more than a year is none's
a_week : policy_of (16 * 604800 + 7) ≡ record { limits_des3 = true; forwardable = true; proxiable = true; renewable_life = 604800; pkinit_agility = false; pkinit_sha1 = false }
a_week = refl

over_a_year : is_policy (16 * 31536001) ≡ false
over_a_year = refl

-- worked: both of logins by certificate
agility_and_sha1 : policy_of (2 ^ 29 + 8) ≡ record NO_POLICY { pkinit_agility = true; pkinit_sha1 = true }
agility_and_sha1 = refl

-- The settings of this clock skew, this greatest lifetime and the policy of this number, if all are in their ranges.
abbrev pub settings_of : ℕ → ℕ → ℕ → Option SettingsRecord
settings_of skew lifetime policy =
    if nat_le skew SKEW_LIMIT && nat_le 1 lifetime && nat_le lifetime LIFETIME_LIMIT && is_policy policy
    then Some (record { skew = skew; lifetime = lifetime; policy = policy_of policy }) else None

-- What logins by certificate are answered by, if there are octets.
abbrev pub pkinit_in : List ℕ → Option (List ℕ)
pkinit_in [] = None
pkinit_in (octet ∷ octets) = Some (octet ∷ octets)

-- The octets of a record by which logins by certificate are answered, none if none are given.
abbrev pub pkinit_octets : Option (List ℕ) → List ℕ
pkinit_octets None = []
pkinit_octets (Some octets) = octets

-- There are from 1 to as many octets as a record has room for, or none are given.
abbrev pub is_pkinit : Option (List ℕ) → Bool
is_pkinit None = true
is_pkinit (Some octets) = nat_le 1 (length octets) && nat_le (length octets) PKINIT_ROOM

-- The realm of this name, these settings and these octets, if there are settings and the name may be a realm's.
abbrev pub named_realm : List ℕ → Option SettingsRecord → Option (List ℕ) → Option RealmParameters
named_realm name None pkinit = None
named_realm name (Some settings) pkinit = if is_realm_name name then Some (record { name = name; settings = settings; pkinit = pkinit }) else None

-- The realm whose record the octets are, if they are one.
unfoldable pub realm_in : List ℕ → Option RealmParameters
realm_in octets =
    if nat_lt (length octets) REALM_HEAD || not (slice_index octets 0 == RECORD_VERSION) then None
    else (if nat_lt (length octets) (REALM_HEAD + le32_at 9 octets) then None
    else named_realm (drop (REALM_HEAD + le32_at 9 octets) octets) (settings_of (le32_at 1 octets) (le32_at 5 octets) (le32_at 13 octets))
    (pkinit_in (take (le32_at 9 octets) (drop REALM_HEAD octets))))

-- The record of a realm.
unfoldable pub realm_bytes : RealmParameters → List ℕ
realm_bytes realm =
    RECORD_VERSION ∷ (le32 realm.settings.skew ++ (le32 realm.settings.lifetime ++ (le32 (length (pkinit_octets realm.pkinit)) ++ (le32 (policy_number realm.settings.policy) ++ (pkinit_octets realm.pkinit ++ realm.name)))))

-- The policy has a number: its greatest renewable life is a year at most.
abbrev pub has_number : Policy → Bool
has_number policy = nat_le policy.renewable_life LIFETIME_LIMIT

-- The realm has a record: its name is one of a realm, the octets have room, and the policy has a number.
abbrev pub is_recorded : RealmParameters → Bool
is_recorded realm = is_realm_name realm.name && is_pkinit realm.pkinit && has_number realm.settings.policy
