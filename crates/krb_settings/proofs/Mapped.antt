-- Tests of lists in memory, beside those of the lists that they show.
use Rattle.std.proofs.Common.{◌≡◌, ℕ, ◌+◌, Bool, List, [], ◌∷◌, ◌||◌, cond, map, take, Some, Vec, Global, refl, ap, sym, ◌∙◌}
use Rattle.std.specs.List.{list_any, position_from, take-map}
use Rattle.krb_settings.specs.Written.{shown_account}
use Rattle.krb_settings.specs.declared.settings.AccountSettings.{AccountSettings}
use Rattle.krb_settings.specs.Warnings.{has_blank_end, is_at, is_control, is_slash, name_cases}
use Rattle.krb_settings.specs.declared.warning.Warning.TheVariants as warning

pub any_shown : (test : List ℕ → Bool) (parts : List (Vec ℕ Global))
    → list_any test (map (λ (part : Vec ℕ Global). part.items) parts) ≡ list_any (λ (part : Vec ℕ Global). test part.items) parts
any_shown test [] = refl
any_shown test (part ∷ parts) = ap (λ rest. test part.items || rest) (any_shown test parts)

pub position_shown : {X Y : Type 0} (test : Y → Bool) (shown : X → Y) (index : ℕ) (xs : List X)
    → position_from test index (map shown xs) ≡ position_from (λ x. test (shown x)) index xs
position_shown test shown index [] = refl
position_shown test shown index (x ∷ xs) = ap (λ rest. cond (test (shown x)) (Some index) rest) (position_shown test shown (index + 1) xs)

pub take_shown : (count : ℕ) (accounts : List AccountSettings) → take count (map shown_account accounts) ≡ map shown_account (take count accounts)
take_shown count accounts = take-map shown_account count accounts

pub name_cases_of : (parts : List (Vec ℕ Global)) (slash at control blank : Bool)
    → slash ≡ list_any (λ (part : Vec ℕ Global). list_any is_slash part.items) parts → at ≡ list_any (λ (part : Vec ℕ Global). list_any is_at part.items) parts
    → control ≡ list_any (λ (part : Vec ℕ Global). list_any is_control part.items) parts → blank ≡ list_any (λ (part : Vec ℕ Global). has_blank_end part.items) parts
    → (slash, warning.NameSlash) ∷ (at, warning.NameAt) ∷ (control, warning.NameControl) ∷ (blank, warning.NameBlank) ∷ []
    ≡ name_cases (map (λ (part : Vec ℕ Global). part.items) parts)
name_cases_of parts slash at control blank p q r s =
    let a = p ∙ sym (any_shown (list_any is_slash) parts) in
    let b = q ∙ sym (any_shown (list_any is_at) parts) in
    let c = r ∙ sym (any_shown (list_any is_control) parts) in
    let d = s ∙ sym (any_shown has_blank_end parts) in
    λ i. (a i, warning.NameSlash) ∷ (b i, warning.NameAt) ∷ (c i, warning.NameControl) ∷ (d i, warning.NameBlank) ∷ []
