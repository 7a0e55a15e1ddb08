-- What holds of the items that an iterator gave and any later ones holds of its list.
use Rattle.std.proofs.Common.{◌≡◌, ℕ, List, [], ◌++◌, length, take, drop, Option, None, refl, sym, ap, subst, ◌∙◌, map-id, arith}
use Rattle.std.specs.Iterator.{DrainsIf}
use Rattle.std.proofs.lemmas.Iterator.{YieldsList}
use Rattle.std.proofs.lemmas.Iterator.Consumers.{YieldsList-so_far, YieldsList-end}
use Rattle.std.proofs.lemmas.List.{take-append-drop, drop_all}

pub of_list : {M : Type 0} (gives : M → Option ℕ → M → Type 0) (start : M) (list : List ℕ) → YieldsList gives (λ x. x) start list
    → (P : List ℕ → Type 0) (W : Type 0) (taken : List ℕ) → DrainsIf gives W start taken → ((later : List ℕ) → (W → later ≡ []) → P (taken ++ later)) → P list
of_list gives start list gave P W taken drains holds =
    let later = drop (length taken) list in
    let front : taken ≡ take (length taken) list = sym (map-id taken) ∙ YieldsList-so_far gave taken drains.0 drains.1 in
    let whole : taken ++ later ≡ list = ap (λ l. l ++ later) front ∙ take-append-drop (length taken) list in
    let none : W → later ≡ [] = λ w.
    let last = drains.2 w in
    let all = (YieldsList-end gave taken drains.0 drains.1 None last.0 refl last.1).1 in
    drop_all (length taken) list (omega arith) in
    subst P whole (holds later none)
