-- What names print is read as the names.
use Rattle.std.proofs.Common.{◌≡◌, ◌⊎◌, inl, inr, ℕ, ◌<◌, ◌==◌, false, List, [], ◌∷◌, ◌++◌, Option, Some, Ok, IsTrue, refl, ap, sym, subst, ◌∙◌}
use Rattle.std.specs.Char.{encode_utf8}
use Rattle.std.specs.List.{flat_map}
use Rattle.std.proofs.lemmas.Bool.{and_parts, ltb-true}
use Rattle.std.proofs.lemmas.Bool.Decides.{eqb_tells}
use Rattle.std.proofs.lemmas.List.{append_assoc, append-nil}
use Rattle.std.proofs.lemmas.List.Concat.{flat_map-cons}
use Rattle.std.proofs.lemmas.Str.{encode_ascii}
use Rattle.krb_messages.specs.NameText.{component_text, escaped, name_text, principal_text}
use Rattle.krb_messages.specs.NameReading.{Octets, all_parts, are_ascii, before, components_in, empty_first, in_first, in_realm, is_ascii, parts_from, principal_in, realm_in, sole_part, split_from, split_realm, unquoted, with_realm}

-- a character prints as a backslash and its letter, or as itself
abbrev IsQuoted : ℕ → Type 0
IsQuoted c = (letter : ℕ) × (escaped c ≡ 92 ∷ letter ∷ []) × (unquoted letter ≡ c)

abbrev IsPlain : ℕ → Type 0
IsPlain c = (escaped c ≡ c ∷ []) × ((c == 92) ≡ false) × ((c == 47) ≡ false) × ((c == 64) ≡ false)

quoted-at : (c k letter : ℕ) → escaped k ≡ 92 ∷ letter ∷ [] → unquoted letter ≡ k → c ≡ k → IsQuoted c
quoted-at c k letter prints is same = subst IsQuoted (sym same) (letter, prints, is)

prints : (c : ℕ) → c < 128 → IsQuoted c ⊎ IsPlain c
unfolding encode_utf8
prints c below = elim (eqb_tells c 0) [
  | inl y0 ↦ inl (quoted-at c 0 48 refl refl y0.1)
  | inr n0 ↦ elim (eqb_tells c 8) [
    | inl y8 ↦ inl (quoted-at c 8 98 refl refl y8.1)
    | inr n8 ↦ elim (eqb_tells c 9) [
      | inl y9 ↦ inl (quoted-at c 9 116 refl refl y9.1)
      | inr n9 ↦ elim (eqb_tells c 10) [
        | inl y10 ↦ inl (quoted-at c 10 110 refl refl y10.1)
        | inr n10 ↦ elim (eqb_tells c 47) [
          | inl y47 ↦ inl (quoted-at c 47 47 refl refl y47.1)
          | inr n47 ↦ elim (eqb_tells c 64) [
            | inl y64 ↦ inl (quoted-at c 64 64 refl refl y64.1)
            | inr n64 ↦ elim (eqb_tells c 92) [
              | inl y92 ↦ inl (quoted-at c 92 92 refl refl y92.1)
              | inr n92 ↦ inr (rw (n0.0, n8.0, n9.0, n10.0, n47.0, n64.0, n92.0) (encode_ascii c below), n92.0, n47.0, n64.0)
            ]
          ]
        ]
      ]
    ]
  ]
]

parts-escaped : (c : ℕ) (rest : Octets) → c < 128 → parts_from false (escaped c ++ rest) ≡ in_first c (parts_from false rest)
parts-escaped c rest below = elim (prints c below) [
  | inl quoted ↦ ap (λ text. parts_from false (text ++ rest)) quoted.1 ∙ ap (λ octet. in_first octet (parts_from false rest)) quoted.2
  | inr plain ↦ ap (λ text. parts_from false (text ++ rest)) plain.0 ∙ rw (plain.1, plain.2, plain.3) refl
]

-- a component before what the rest is read as
parts-component : (text rest first : Octets) (further : List Octets) → IsTrue (is_ascii text) → parts_from false rest ≡ Ok (first, further)
    → parts_from false (component_text text ++ rest) ≡ Ok (text ++ first, further)
parts-component [] rest first further ascii read = read
parts-component (c ∷ text) rest first further ascii read =
    let both = and_parts _ (is_ascii text) ascii in
    ap (λ (octets : Octets). parts_from false (octets ++ rest)) (flat_map-cons escaped c text)
    ∙ ap (parts_from false) (append_assoc (escaped c) (component_text text) rest)
    ∙ parts-escaped c (component_text text ++ rest) (ltb-true c 128 both.0)
    ∙ ap (in_first c) (parts-component text rest first further both.1 read)

-- the components after the first one
abbrev further_text : List Octets → Octets
further_text = flat_map (λ component. 47 ∷ component_text component)

parts-further : (components : List Octets) → IsTrue (are_ascii components) → parts_from false (further_text components) ≡ Ok ([], components)
parts-further [] ascii = refl
parts-further (component ∷ components) ascii =
    let both = and_parts (is_ascii component) (are_ascii components) ascii in
    ap (parts_from false) (flat_map-cons (λ part. 47 ∷ component_text part) component components)
    ∙ ap empty_first (parts-component component (further_text components) [] components both.0 (parts-further components both.1))
    ∙ ap (λ (part : Octets). empty_first (Ok (part, components))) (append-nil component)

pub name-read : (first : Octets) (further : List Octets) → IsTrue (are_ascii (first ∷ further)) → components_in (name_text (first ∷ further)) ≡ Ok (first ∷ further)
unfolding components_in
name-read first further ascii =
    let both = and_parts (is_ascii first) (are_ascii further) ascii in
    ap all_parts (parts-component first (further_text further) [] further both.0 (parts-further further both.1))
    ∙ ap (λ (part : Octets). all_parts (Ok (part, further))) (append-nil first)

realm-read : (realm : Octets) → IsTrue (is_ascii realm) → realm_in (component_text realm) ≡ Ok realm
unfolding realm_in components_in
realm-read realm ascii =
    ap (λ text. sole_part (all_parts (parts_from false text))) (sym (append-nil (component_text realm)))
    ∙ ap (λ parts. sole_part (all_parts parts)) (parts-component realm [] [] [] ascii refl)
    ∙ ap Ok (append-nil realm)

-- the text of a name before an `@` that isn't quoted
abbrev behind_text : Octets → Octets × Option Octets → Octets × Option Octets
behind_text text rest = (text ++ rest.0, rest.1)

split-escaped : (c : ℕ) (rest : Octets) → c < 128 → split_from false (escaped c ++ rest) ≡ behind_text (escaped c) (split_from false rest)
split-escaped c rest below = elim (prints c below) [
  | inl quoted ↦ ap (λ text. split_from false (text ++ rest)) quoted.1 ∙ ap (λ text. behind_text text (split_from false rest)) (sym quoted.1)
  | inr plain ↦ ap (λ text. split_from false (text ++ rest)) plain.0 ∙ (rw (plain.3, plain.1) refl) ∙ ap (λ text. behind_text text (split_from false rest)) (sym plain.0)
]

behind-behind : (a b : Octets) (rest : Octets × Option Octets) → behind_text a (behind_text b rest) ≡ behind_text (a ++ b) rest
behind-behind a b rest = ap (λ (name : Octets). (name, rest.1)) (sym (append_assoc a b rest.0))

split-component : (text rest : Octets) → IsTrue (is_ascii text) → split_from false (component_text text ++ rest) ≡ behind_text (component_text text) (split_from false rest)
split-component [] rest ascii = refl
split-component (c ∷ text) rest ascii =
    let both = and_parts _ (is_ascii text) ascii in
    ap (λ (octets : Octets). split_from false (octets ++ rest)) (flat_map-cons escaped c text)
    ∙ ap (split_from false) (append_assoc (escaped c) (component_text text) rest)
    ∙ split-escaped c (component_text text ++ rest) (ltb-true c 128 both.0)
    ∙ ap (behind_text (escaped c)) (split-component text rest both.1)
    ∙ behind-behind (escaped c) (component_text text) (split_from false rest)
    ∙ ap (λ (octets : Octets). behind_text octets (split_from false rest)) (sym (flat_map-cons escaped c text))

split-further : (components : List Octets) (rest : Octets) → IsTrue (are_ascii components)
    → split_from false (further_text components ++ rest) ≡ behind_text (further_text components) (split_from false rest)
split-further [] rest ascii = refl
split-further (component ∷ components) rest ascii =
    let both = and_parts (is_ascii component) (are_ascii components) ascii in
    let front = component_text component in
    let behind = further_text components in
    let whole = flat_map-cons (λ part. 47 ∷ component_text part) component components in
    ap (λ (octets : Octets). split_from false (octets ++ rest)) whole
    ∙ ap (λ octets. before 47 (split_from false octets)) (append_assoc front behind rest)
    ∙ ap (before 47) (split-component component (behind ++ rest) both.0 ∙ ap (behind_text front) (split-further components rest both.1) ∙ behind-behind front behind (split_from false rest))
    ∙ ap (λ (octets : Octets). behind_text octets (split_from false rest)) (sym whole)

split-name : (first : Octets) (further : List Octets) (realm : Octets) → IsTrue (are_ascii (first ∷ further))
    → split_realm (name_text (first ∷ further) ++ 64 ∷ realm) ≡ (name_text (first ∷ further), Some realm)
unfolding split_realm
split-name first further realm ascii =
    let both = and_parts (is_ascii first) (are_ascii further) ascii in
    let front = component_text first in
    let behind = further_text further in
    let end = 64 ∷ realm in
    ap (split_from false) (append_assoc front behind end)
    ∙ split-component first (behind ++ end) both.0
    ∙ ap (behind_text front) (split-further further end both.1)
    ∙ behind-behind front behind ([], Some realm)
    ∙ ap (λ (name : Octets). (name, Some realm)) (append-nil (front ++ behind))

pub principal-read : (first : Octets) (further : List Octets) (realm : Octets) → IsTrue (are_ascii (realm ∷ first ∷ further))
    → principal_in (principal_text (first ∷ further) realm) ≡ Ok (first ∷ further, Some realm)
unfolding principal_in
principal-read first further realm ascii =
    let both = and_parts (is_ascii realm) (are_ascii (first ∷ further)) ascii in
    ap (λ parts. in_realm (components_in parts.0) parts.1) (split-name first further (component_text realm) both.1)
    ∙ ap (λ components. in_realm components (Some (component_text realm))) (name-read first further both.1)
    ∙ ap (with_realm (first ∷ further)) (realm-read realm both.0)
