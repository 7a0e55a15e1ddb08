-- Warnings as they are collected.
use Rattle.std.proofs.Common.{◌≡◌, ℕ, ◌+◌, ◌<◌, ◌≤◌, suc, List, [], ◌∷◌, ◌++◌, length, take, drop, get_or, map, ap, sym, ◌∙◌, arith, append-nil}
use Rattle.std.proofs.lemmas.List.{append_assoc, map-append, take_more, drop_all}
use Rattle.std.proofs.lemmas.List.Elements.{filter-append}
use Rattle.std.proofs.Math.Seq.{drop-cons}
use Rattle.krb_settings.specs.Written.{WrittenRealm, shown_account}
use Rattle.krb_settings.specs.declared.settings.AccountSettings.{AccountSettings}
use Rattle.krb_settings.specs.Warnings.{Case, met, account_found, accounts_found}
use Rattle.krb_settings.specs.declared.place.Place.{Place}
use Rattle.krb_settings.specs.declared.warning.Found.{Found}

met-append : (at : Place) (cases others : List Case) → met at (cases ++ others) ≡ met at cases ++ met at others
unfolding met
met-append at cases others = simp (filter-append, map-append)

-- one more case
pub one_more : (at : Place) (old done now : List Found) (cases : List Case) (i : ℕ) (d : Case) → i < length cases
    → done ≡ old ++ met at (take i cases) → now ≡ done ++ met at (get_or cases i d ∷ []) → now ≡ old ++ met at (take (i + 1) cases)
one_more at old done now cases i d inside so_far more =
    let case = get_or cases i d in
    more ∙ ap (λ front. front ++ met at (case ∷ [])) so_far ∙ append_assoc old (met at (take i cases)) (met at (case ∷ []))
    ∙ ap (λ back. old ++ back) (sym (met-append at (take i cases) (case ∷ [])) ∙ ap (met at) (sym (take_more cases i d inside)))

-- what all accounts give, of which the first i gave what is there
abbrev pub IsSoFar : WrittenRealm → List Found → List AccountSettings → ℕ → List Found → Type 0
IsSoFar realm old accounts i now = old ++ accounts_found realm 0 (map shown_account accounts) ≡ now ++ accounts_found realm i (map shown_account (drop i accounts))

pub next_account : (realm : WrittenRealm) (old done now : List Found) (accounts : List AccountSettings) (i : ℕ) (d : AccountSettings) → i < length accounts
    → IsSoFar realm old accounts i done → now ≡ done ++ account_found realm i (shown_account (get_or accounts i d)) → IsSoFar realm old accounts (i + 1) now
next_account realm old done now accounts i d inside so_far more =
    let rest = accounts_found realm (suc i) (map shown_account (drop (suc i) accounts)) in
    let next : suc i ≡ i + 1 = omega arith in
    let step : old ++ accounts_found realm 0 (map shown_account accounts) ≡ now ++ rest =
    so_far ∙ ap (λ left. done ++ accounts_found realm i (map shown_account left)) (drop-cons accounts i d inside)
    ∙ sym (append_assoc done (account_found realm i (shown_account (get_or accounts i d))) rest) ∙ ap (λ front. front ++ rest) (sym more) in
    rw (← next) step

pub all_accounts : (realm : WrittenRealm) (old now : List Found) (accounts : List AccountSettings) (i : ℕ) → length accounts ≤ i
    → IsSoFar realm old accounts i now → now ≡ old ++ accounts_found realm 0 (map shown_account accounts)
all_accounts realm old now accounts i end so_far =
    sym (so_far ∙ ap (λ left. now ++ accounts_found realm i (map shown_account left)) (drop_all i accounts end) ∙ append-nil now)
