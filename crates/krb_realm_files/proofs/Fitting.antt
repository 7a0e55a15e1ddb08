-- A principal's name has room in a block.
use Rattle.std.proofs.Common.{◌≡◌, ℕ, ◌+◌, ◌*◌, ◌<◌, ◌≤◌, ◌&&◌, nat_le, nat_lt, arith, Bool, true, false, List, [], ◌∷◌, length, refl, sym, ◌∙◌}
use Rattle.std.proofs.lemmas.Bool.{and_parts}
use Rattle.std.proofs.lemmas.Bool.Decides.{nat_tests}
use Rattle.std.specs.List.{list_all}
use Rattle.picky_asn1.specs.Bytes.{Bytes}
use Rattle.krb_realm_accounts.specs.Names.{are_components, is_realm_name}
use Rattle.krb_realm_accounts.specs.Packed.{fit, fit_behind}

and_both : (a b : Bool) → a ≡ true → b ≡ true → (a && b) ≡ true
and_both true b p q = q
and_both false b p q = p

short : (n most : ℕ) → nat_le n most ≡ true → n ≤ most
short n most told = grind (arith, nat_tests)

with_room : (n most : ℕ) → n < most → nat_lt n most ≡ true
with_room n most below = grind (arith, nat_tests)

fits_all : (used : ℕ) (name : List Bytes) → used + 256 * length name ≤ 4096 → list_all is_realm_name name ≡ true → fit_behind 4096 used name ≡ true
fits_all used [] few all = refl
fits_all used (text ∷ name) few all =
    let rest = and_parts (is_realm_name text) (list_all is_realm_name name) all in
    let low = and_parts (nat_le 1 (length text) && nat_le (length text) 255) (list_all (λ character. nat_lt character 128) text) rest.0 in
    let most : length text ≤ 255 = short (length text) 255 ((and_parts (nat_le 1 (length text)) (nat_le (length text) 255) low.0).1) in
    and_both _ _ (and_both _ _ low.1 (with_room (used + length text) 4096 (omega (arith, few, most))))
    (fits_all (used + length text + 1) name (omega (arith, few, most)) rest.1)

pub components_fit : (name : List Bytes) → are_components name ≡ true → fit name ≡ true
components_fit name valid =
    let rest = and_parts (nat_le 1 (length name) && nat_le (length name) 16) (list_all is_realm_name name) valid in
    let most : length name ≤ 16 = short (length name) 16 ((and_parts (nat_le 1 (length name)) (nat_le (length name) 16) rest.0).1) in
    fits_all 0 name (omega (arith, most)) rest.1

-- a name for which a block has no room is none of a principal
pub unfit : (name : List Bytes) (valid : Bool) → valid ≡ are_components name → fit name ≡ false → valid ≡ false
unfit name false is none = refl
unfit name true is none = let both : true ≡ false = sym (components_fit name (sym is)) ∙ none in absurd (cc (both))
