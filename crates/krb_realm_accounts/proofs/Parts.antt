-- A name's components one by one.
use Rattle.std.proofs.Common.{◌≡◌, ℕ, ◌<◌, ◌&&◌, true, false, Bool, List, Vec, length, get_or, refl, sym, ap, ◌∙◌}
use Rattle.std.specs.Global.{Global}
use Rattle.std.specs.List.{list_all}
use Rattle.std.proofs.lemmas.List.Folds.{list_all-map, list_all_at}
use Rattle.krb_realm_accounts.specs.Names.{is_realm_name, are_components, parts}

-- what each part passes, each component's characters pass
part_passes : (p : List ℕ → Bool) (name : List (Vec ℕ Global)) (i : ℕ) (part : Vec ℕ Global)
    → list_all p (parts name) ≡ true → i < length name → part ≡ get_or name i part → p part.items ≡ true
part_passes p name i part all in_range is =
    elim (p part.items) as (λ b. p part.items ≡ b → b ≡ true) [
      | true ↦ λ _. refl
      | false ↦ λ fails.
          let failed = list_all_at (λ (n : Vec ℕ Global). p n.items) name i part in_range (ap (λ (n : Vec ℕ Global). p n.items) (sym is) ∙ fails) in
          sym failed ∙ sym (list_all-map p (λ (n : Vec ℕ Global). n.items) name) ∙ all
    ] refl

second : (a b : Bool) → (a && b) ≡ true → b ≡ true
second true b both = both
second false b both = cc

-- each component is as a realm's name
pub is_realm_name-part : (name : List (Vec ℕ Global)) (i : ℕ) (part : Vec ℕ Global)
    → are_components (parts name) ≡ true → i < length name → part ≡ get_or name i part → is_realm_name part.items ≡ true
is_realm_name-part name i part valid = part_passes is_realm_name name i part (second _ _ valid)
