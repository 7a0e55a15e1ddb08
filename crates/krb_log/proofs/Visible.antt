-- What is shown of a name is printable ASCII without a blank.
use Rattle.std.proofs.Common.{◌≡◌, ℕ, Bool, true, false, List, [], ◌∷◌, ◌++◌, IsTrue, refl, ap, ◌∙◌}
use Rattle.std.specs.Prelude.{nat_le, nat_lt, length, if◌then◌else◌}
use Rattle.std.specs.Char.{encode_utf8, is_ascii_graphic}
use Rattle.std.specs.Fmt.{digits}
use Rattle.std.specs.List.{flat_map, list_all}
use Rattle.std.proofs.lemmas.Bool.{and_parts, ltb-true}
use Rattle.std.proofs.lemmas.List.Concat.{flat_map-cons}
use Rattle.std.proofs.lemmas.List.Folds.{list_all-append}
use Rattle.block_ciphers.proofs.AllBytes.{all_below, all_below_at}
use Rattle.krb_messages.specs.NameReading.{are_ascii, is_ascii}
use Rattle.krb_messages.specs.NameText.{component_text, escaped, name_text, principal_text}
use Rattle.krb_log.specs.NameText.{IsVisible, shown_name, shown_octet, shown_text}
use Rattle.krb_log.specs.declared.name.TheConstants.{LONG_NAME, NAME_ROOM}

both : (p : ℕ → Bool) (xs ys : List ℕ) → list_all p xs ≡ true → list_all p ys ≡ true → list_all p (xs ++ ys) ≡ true
both p xs ys x y = list_all-append p xs ys ∙ rw (x, y) refl

-- the text of a name is ASCII
abbrev below : ℕ → Bool
below octet = nat_lt octet 128

all_escaped : all_below (λ c. is_ascii (escaped c)) 128 ≡ true
unfolding all_below encode_utf8
all_escaped = refl

component_ascii : (component : List ℕ) → IsTrue (is_ascii component) → is_ascii (component_text component) ≡ true
component_ascii [] ascii = refl
component_ascii (c ∷ component) ascii =
    let parts = and_parts _ (is_ascii component) ascii in
    ap is_ascii (flat_map-cons escaped c component)
    ∙ both below (escaped c) (component_text component) (all_below_at (λ k. is_ascii (escaped k)) 128 c all_escaped (ltb-true c 128 parts.0)) (component_ascii component parts.1)

further_ascii : (components : List (List ℕ)) → IsTrue (are_ascii components) → is_ascii (flat_map (λ further. 47 ∷ component_text further) components) ≡ true
further_ascii [] ascii = refl
further_ascii (component ∷ components) ascii =
    let parts = and_parts (is_ascii component) (are_ascii components) ascii in
    ap is_ascii (flat_map-cons (λ further. 47 ∷ component_text further) component components)
    ∙ both below (47 ∷ component_text component) (flat_map (λ further. 47 ∷ component_text further) components) (component_ascii component parts.0)
    (further_ascii components parts.1)

name_ascii : (components : List (List ℕ)) → IsTrue (are_ascii components) → is_ascii (name_text components) ≡ true
name_ascii [] ascii = refl
name_ascii (component ∷ components) ascii =
    let parts = and_parts (is_ascii component) (are_ascii components) ascii in
    both below (component_text component) (flat_map (λ further. 47 ∷ component_text further) components) (component_ascii component parts.0)
    (further_ascii components parts.1)

principal_ascii : (components : List (List ℕ)) (realm : List ℕ) → IsTrue (is_ascii realm) → IsTrue (are_ascii components)
    → is_ascii (principal_text components realm) ≡ true
principal_ascii components realm r c = both below (name_text components) (64 ∷ component_text realm) (name_ascii components c) (component_ascii realm r)

-- what is shown of ASCII is visible
abbrev visible : List ℕ → Bool
visible = list_all is_ascii_graphic

all_shown : all_below (λ c. visible (shown_octet c)) 128 ≡ true
unfolding all_below encode_utf8 digits
all_shown = refl

text_visible : (text : List ℕ) → IsTrue (is_ascii text) → visible (shown_text text) ≡ true
text_visible [] ascii = refl
text_visible (c ∷ text) ascii =
    let parts = and_parts _ (is_ascii text) ascii in
    ap visible (flat_map-cons shown_octet c text)
    ∙ both is_ascii_graphic (shown_octet c) (shown_text text) (all_below_at (λ k. visible (shown_octet k)) 128 c all_shown (ltb-true c 128 parts.0)) (text_visible text parts.1)

-- by whether the text is short
shown_visible : (short : Bool) (text : List ℕ) → visible text ≡ true → visible (if short then text else LONG_NAME.now) ≡ true
shown_visible true text v = v
shown_visible false text v = refl

pub name_is_visible : (components : List (List ℕ)) (realm : List ℕ) → IsTrue (are_ascii (realm ∷ components)) → IsVisible (shown_name components realm)
name_is_visible components realm ascii =
    let parts = and_parts (is_ascii realm) (are_ascii components) ascii in
    let text = shown_text (principal_text components realm) in
    shown_visible (nat_le (length text) NAME_ROOM) text (text_visible (principal_text components realm) (principal_ascii components realm parts.0 parts.1))
