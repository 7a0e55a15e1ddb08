-- How a text is read as a name (RFC 1964, section 2.1.1): components with `/` between them, then `@` and the realm. A backslash quotes
-- the octet after it.
use Rattle.std.specs.Prelude.{◌≡◌, ◌⊎◌, ℕ, nat_lt, Bool, true, false, ◌==◌, if◌then◌else◌, List, [], ◌∷◌, map, Vec, Option, Some, None, Result, Ok, Err, codes, refl}
use Rattle.std.specs.List.{list_all}
use Rattle.std.specs.Option.{option_map}
use Rattle.std.specs.Global.{Global}
use Rattle.krb_messages.specs.declared.name_reading.NameTextFault.{NameTextFault}
use Rattle.krb_messages.specs.declared.name_reading.NameTextFault.TheVariants.{Memory, SlashInRealm, TrailingBackslash, UnexpectedRealm}

abbrev pub Octets : Type 0
Octets = List ℕ

-- the octets of each component
abbrev pub octets : List (Vec ℕ Global) → List Octets
octets name = map (λ component. component.items) name

-- The octets of the realm, if a realm was read.
abbrev pub option_octets : Option (Vec ℕ Global) → Option Octets
option_octets realm = option_map (λ octets. octets.items) realm

-- the octet that a backslash and this one are for
abbrev pub unquoted : ℕ → ℕ
unquoted octet =
    if octet == 110 then 10
    else (if octet == 116 then 9
    else (if octet == 98 then 8
    else (if octet == 48 then 0 else octet)))

-- one octet before those of the first part
abbrev pub in_first : ℕ → Result (Octets × List Octets) NameTextFault → Result (Octets × List Octets) NameTextFault
in_first octet (Ok (first, further)) = Ok (octet ∷ first, further)
in_first octet (Err fault) = Err fault

-- an empty part before the others
abbrev pub empty_first : Result (Octets × List Octets) NameTextFault → Result (Octets × List Octets) NameTextFault
empty_first (Ok (first, further)) = Ok ([], first ∷ further)
empty_first (Err fault) = Err fault

-- the first part of a text and the further ones, after a backslash or not
abbrev pub parts_from : Bool → Octets → Result (Octets × List Octets) NameTextFault
parts_from true [] = Err TrailingBackslash
parts_from false [] = Ok ([], [])
parts_from true (octet ∷ text) = in_first (unquoted octet) (parts_from false text)
parts_from false (octet ∷ text) =
    if octet == 92 then parts_from true text
    else (if octet == 47 then empty_first (parts_from false text)
    else (if octet == 64 then Err UnexpectedRealm
    else in_first octet (parts_from false text)))

abbrev pub all_parts : Result (Octets × List Octets) NameTextFault → Result (List Octets) NameTextFault
all_parts (Ok (first, further)) = Ok (first ∷ further)
all_parts (Err fault) = Err fault

-- the components of a text without a realm
unfoldable pub components_in : Octets → Result (List Octets) NameTextFault
components_in text = all_parts (parts_from false text)

-- a realm is one part
abbrev pub sole_part : Result (List Octets) NameTextFault → Result Octets NameTextFault
sole_part (Ok (part ∷ [])) = Ok part
sole_part (Ok _) = Err SlashInRealm
sole_part (Err fault) = Err fault

-- the realm that a text spells
unfoldable pub realm_in : Octets → Result Octets NameTextFault
realm_in text = sole_part (components_in text)

-- one octet more before a realm
abbrev pub before : ℕ → Octets × Option Octets → Octets × Option Octets
before octet rest = (octet ∷ rest.0, rest.1)

-- what precedes the first unquoted `@`, and what follows it, where a backslash stands before the text or doesn't
abbrev pub split_from : Bool → Octets → Octets × Option Octets
split_from quoted [] = ([], None)
split_from true (octet ∷ text) = before octet (split_from false text)
split_from false (octet ∷ text) = if octet == 64 then ([], Some text) else before octet (split_from (octet == 92) text)

-- what precedes the first unquoted `@` of a text, and what follows it
unfoldable pub split_realm : Octets → Octets × Option Octets
split_realm = split_from false

abbrev pub with_realm : List Octets → Result Octets NameTextFault → Result (List Octets × Option Octets) NameTextFault
with_realm components (Ok realm) = Ok (components, Some realm)
with_realm components (Err fault) = Err fault

abbrev pub in_realm : Result (List Octets) NameTextFault → Option Octets → Result (List Octets × Option Octets) NameTextFault
in_realm (Err fault) _ = Err fault
in_realm (Ok components) None = Ok (components, None)
in_realm (Ok components) (Some realm) = with_realm components (realm_in realm)

-- the components of a text, and its realm
unfoldable pub principal_in : Octets → Result (List Octets × Option Octets) NameTextFault
principal_in text = in_realm (components_in (split_realm text).0) (split_realm text).1

-- memory aside, the fault is the text's
abbrev pub IsFault : {A : Type 0} → Result A NameTextFault → NameTextFault → Type 0
IsFault read fault = (fault ≡ Memory) ⊎ (read ≡ Err fault)

-- octets below 128, which are characters of a KerberosString
abbrev pub is_ascii : Octets → Bool
is_ascii = list_all (λ octet. nat_lt octet 128)

-- Each octet of each component is below 128.
abbrev pub are_ascii : List Octets → Bool
are_ascii = list_all is_ascii

host : components_in (codes "host/www.example.com") ≡ Ok (codes "host" ∷ codes "www.example.com" ∷ [])
unfolding components_in
host = refl

user : principal_in (codes "user@EXAMPLE.COM") ≡ Ok (codes "user" ∷ [], Some (codes "EXAMPLE.COM"))
unfolding principal_in split_realm components_in realm_in
user = refl

quoted : components_in (codes "a\\/b\\n") ≡ Ok ((97 ∷ 47 ∷ 98 ∷ 10 ∷ []) ∷ [])
unfolding components_in
quoted = refl
