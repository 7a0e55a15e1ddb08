-- A line at its place.
use Rattle.std.proofs.Common.{◌≡◌, ℕ, zero, suc, ◌+◌, ◌<◌, Bool, true, false, cond, if◌then◌else◌, List, [], ◌∷◌, ◌++◌, length, get_or, set, take, drop, ◌↔◌, ◌⊎◌, inl, inr, subst, IfErr, Option, None, Some, IsSome, Result, Ok, Err, refl, ap, sym, ◌∙◌, arith}
use Rattle.std.specs.Prelude.{OnOk}
use Rattle.std.specs.List.{insert, position_from, remove}
use Rattle.std.proofs.lemmas.List.{take-append-drop}
use Rattle.krb_account_texts.specs.Edits.{HasCertified, HasChanged, HasOneLess, HasOneMore, certified, is_line_of, is_name_spent, is_realm, is_service_of, is_spent, leaving, place_of, realm_place, staying}
use Rattle.krb_account_texts.specs.declared.edits.EditRefusal.{EditRefusal}
use Rattle.krb_account_texts.specs.declared.edits.EditRefusal.TheVariants.{Exists, KeptAccount, Memory, NumberSpent, Unknown}
use Rattle.krb_account_texts.specs.declared.line.Line.{Line}
use Rattle.krb_account_texts.specs.Order.{realm_among}
use Rattle.picky_asn1.specs.Bytes.{Bytes}

-- a list, and what it is after a write, by its parts
parts-at : {X : Type 0} (xs : List X) (i : ℕ) (d : X) → i < length xs → xs ≡ take i xs ++ get_or xs i d ∷ drop (suc i) xs
parts-at [] i d inside = absurd (omega arith)
parts-at (x ∷ xs) zero d inside = refl
parts-at (x ∷ xs) (suc i) d inside = ap (λ more. x ∷ more) (parts-at xs i d (omega arith))

set-parts : {X : Type 0} (xs : List X) (i : ℕ) (y : X) → i < length xs → set xs i y ≡ take i xs ++ y ∷ drop (suc i) xs
set-parts [] i y inside = absurd (omega arith)
set-parts (x ∷ xs) zero y inside = refl
set-parts (x ∷ xs) (suc i) y inside = ap (λ more. x ∷ more) (set-parts xs i y (omega arith))

-- the first place at which a test passes
record IsPlace {X : Type 0} (test : X → Bool) (from : ℕ) (xs : List X) (place : ℕ) (d : X) : Type 0 where
  at : ℕ
  same : place ≡ from + at
  inside : at < length xs
  passes : test (get_or xs at d) ≡ true

place-next : {X : Type 0} (test : X → Bool) (from : ℕ) (x : X) (xs : List X) (place : ℕ) (d : X) → IsPlace test (from + 1) xs place d → IsPlace test from (x ∷ xs) place d
place-next test from x xs place d is = record {
  at = suc is.at;
  same = let same = is.same in omega arith;
  inside = let inside = is.inside in omega arith;
  passes = is.passes;
}

some-place : (from place : ℕ) → Some from ≡ Some place → place ≡ from + 0
some-place from place found = let same : from ≡ place = cc found in omega arith

by-test : {X : Type 0} (test : X → Bool) (from : ℕ) (x : X) (xs : List X) (place : ℕ) (d : X) (passed : Bool) → test x ≡ passed
    → cond passed (Some from) (position_from test (from + 1) xs) ≡ Some place
    → (position_from test (from + 1) xs ≡ Some place → IsPlace test (from + 1) xs place d) → IsPlace test from (x ∷ xs) place d
by-test test from x xs place d true passed found later = record { at = 0; same = some-place from place found; inside = omega arith; passes = passed }
by-test test from x xs place d false passed found later = place-next test from x xs place d (later found)

is-place : {X : Type 0} (test : X → Bool) (from : ℕ) (xs : List X) (place : ℕ) (d : X) → position_from test from xs ≡ Some place → IsPlace test from xs place d
is-place test from [] place d found = cc found
is-place test from (x ∷ xs) place d found = by-test test from x xs place d (test x) refl found (λ later. is-place test (from + 1) xs place d later)

pub passes-at : (name : List Bytes) (lines : List Line) (place : ℕ) (d : Line) → place_of name lines ≡ Some place → is_line_of name (get_or lines place d) ≡ true
passes-at name lines place d found =
    let is = is-place (is_line_of name) 0 lines place d found in
    let same : place ≡ is.at = omega (arith, is.same) in
    ap (λ (i : ℕ). is_line_of name (get_or lines i d)) same ∙ is.passes

-- the three changes
pub one-more : (more : Line) (old new : List Line) (place : ℕ) → new ≡ insert old place more → HasOneMore more old new
one-more more old new place is = (take place old, drop place old, sym (take-append-drop place old), is)

pub changed-at : (name : List Bytes) (change : Line → Line) (old new : List Line) (place : ℕ) (d : Line) → place_of name old ≡ Some place → place < length old
    → new ≡ set old place (change (get_or old place d)) → HasChanged name change old new
changed-at name change old new place d found inside is =
    (take place old, get_or old place d, drop (suc place) old, passes-at name old place d found, parts-at old place d inside, is ∙ set-parts old place (change (get_or old place d)) inside)

pub certified-at : (pkinit : Option Bytes) (old new : List Line) (place : ℕ) (d : Line) → realm_place old ≡ Some place → place < length old
    → new ≡ set old place (certified pkinit (get_or old place d)) → HasCertified pkinit old new
certified-at pkinit old new place d found inside is =
    let own = is-place is_realm 0 old place d found in
    let same : place ≡ own.at = omega (arith, own.same) in
    (take place old, get_or old place d, drop (suc place) old, ap (λ (i : ℕ). is_realm (get_or old i d)) same ∙ own.passes, parts-at old place d inside, is ∙ set-parts old place (certified pkinit (get_or old place d)) inside)

pub one-less : (name : List Bytes) (old new : List Line) (place : ℕ) (d : Line) → place_of name old ≡ Some place → place < length old
    → new ≡ remove old place → HasOneLess name old new
one-less name old new place d found inside is =
    (take place old, get_or old place d, drop (suc place) old, passes-at name old place d found, parts-at old place d inside, is)

-- a name that has no account is not refused as one that has
pub not_there : (r : Result (Unit {0}) EditRefusal) (found : Option ℕ) → found ≡ None → (r ≡ Err Exists → ⊥) → (r ≡ Err Exists) ↔ IsSome found
not_there r None none other = (λ e. absurd (other e), λ some. cc some)
not_there r (Some place) none other = absurd (cc (none))

pub out_of_memory : (r : Result (Unit {0}) EditRefusal) (e : EditRefusal) → r ≡ Err e → e ≡ Memory → r ≡ Err Exists → ⊥
out_of_memory r e is memory exists = let both : Err Memory ≡ Err Exists = ap Err (sym memory) ∙ sym is ∙ exists in absurd (cc (both))

-- what holds on success, and what follows from it
pub on-ok : {T E P Q : Type 0} (r : Result T E) → OnOk r P → (P → Q) → OnOk r Q
on-ok (Ok x) holds follows = follows holds
on-ok (Err e) holds follows = holds

-- whether the kvno of the first account of a name is the greatest, by that account's place
unspent-by : (name : List Bytes) (from : ℕ) (own : Line) (lines : List Line) (passed : Bool) → cond passed (Some from) (position_from (is_line_of name) (from + 1) lines) ≡ None
    → (position_from (is_line_of name) (from + 1) lines ≡ None → is_name_spent name lines ≡ false) → (if passed then is_spent own else is_name_spent name lines) ≡ false
unspent-by name from own lines true none later = cc none
unspent-by name from own lines false none later = later none

unspent-from : (name : List Bytes) (from : ℕ) (lines : List Line) → position_from (is_line_of name) from lines ≡ None → is_name_spent name lines ≡ false
unspent-from name from [] none = refl
unspent-from name from (own ∷ lines) none = unspent-by name from own lines (is_line_of name own) none (λ later. unspent-from name (from + 1) lines later)

pub unspent : (name : List Bytes) (lines : List Line) → place_of name lines ≡ None → is_name_spent name lines ≡ false
unspent name lines none = unspent-from name 0 lines none

spent-by : (name : List Bytes) (from : ℕ) (own : Line) (lines : List Line) (place at : ℕ) (d : Line) (passed : Bool)
    → cond passed (Some from) (position_from (is_line_of name) (from + 1) lines) ≡ Some place → place ≡ from + at
    → ((at : ℕ) → position_from (is_line_of name) (from + 1) lines ≡ Some place → place ≡ (from + 1) + at → is_name_spent name lines ≡ is_spent (get_or lines at d))
    → (if passed then is_spent own else is_name_spent name lines) ≡ is_spent (get_or (own ∷ lines) at d)
spent-by name from own lines place zero d true found same later = refl
spent-by name from own lines place (suc at) d true found same later = let first : from ≡ place = cc found in absurd (omega arith)
spent-by name from own lines place zero d false found same later =
    let is = is-place (is_line_of name) (from + 1) lines place d found in
    let other = is.same in
    absurd (omega arith)
spent-by name from own lines place (suc at) d false found same later = later at found (omega arith)

spent-from : (name : List Bytes) (from : ℕ) (lines : List Line) (place at : ℕ) (d : Line) → position_from (is_line_of name) from lines ≡ Some place → place ≡ from + at
    → is_name_spent name lines ≡ is_spent (get_or lines at d)
spent-from name from [] place at d found same = cc found
spent-from name from (own ∷ lines) place at d found same =
    spent-by name from own lines place at d (is_line_of name own) found same (λ at found same. spent-from name (from + 1) lines place at d found same)

pub spent-at : (name : List Bytes) (lines : List Line) (place : ℕ) (d : Line) → place_of name lines ≡ Some place → is_name_spent name lines ≡ is_spent (get_or lines place d)
spent-at name lines place d found = spent-from name 0 lines place place d found (omega arith)

pub spent-there : (r : Result (Unit {0}) EditRefusal) (spent found : Bool) → found ≡ spent → r ≡ (if spent then Err NumberSpent else Ok tt) → (r ≡ Err NumberSpent) ↔ (found ≡ true)
spent-there r true found same is = (λ _. same, λ _. is)
spent-there r false found same is = (λ e. let both : Ok tt ≡ Err NumberSpent = sym is ∙ e in absurd (cc (both)), λ e. absurd (cc (same, e)))

pub spent-same : (r : Result (Unit {0}) EditRefusal) (spent found : Bool) → found ≡ spent → (r ≡ Err NumberSpent) ↔ (spent ≡ true) → (r ≡ Err NumberSpent) ↔ (found ≡ true)
spent-same r spent found same is = subst (λ (b : Bool). (r ≡ Err NumberSpent) ↔ (b ≡ true)) (sym same) is

-- a call that may be refused for want of memory or of a further kvno isn't refused as one of an unknown name
unknown-no : (r : Result (Unit {0}) EditRefusal) → IfErr r (λ e. (e ≡ NumberSpent) ⊎ (e ≡ Memory)) → r ≡ Err Unknown → ⊥
unknown-no (Ok x) refused e = cc (e)
unknown-no (Err x) (inl spent) e = let same : x ≡ Unknown = cc (e) in cc (spent, same)
unknown-no (Err x) (inr memory) e = let same : x ≡ Unknown = cc (e) in cc (memory, same)

pub not-unknown : (r : Result (Unit {0}) EditRefusal) (found : Option ℕ) (place : ℕ) → found ≡ Some place → IfErr r (λ e. (e ≡ NumberSpent) ⊎ (e ≡ Memory))
    → (r ≡ Err Unknown) ↔ (found ≡ None)
not-unknown r found place some refused = (λ e. absurd (unknown-no r refused e), λ none. absurd (cc (some, none)))

pub unknown-there : (r : Result (Unit {0}) EditRefusal) (found : Bool) → r ≡ Err Unknown → found ≡ false → (r ≡ Err NumberSpent) ↔ (found ≡ true)
unknown-there r found is none = (λ e. let both : Err Unknown ≡ Err NumberSpent = sym is ∙ e in absurd (cc (both)), λ e. absurd (cc (none, e)))

-- whether an account may leave the database, by its place
pub leaving-there : (name : List Bytes) (lines : List Line) (place : ℕ) (is_kept : Bool) → place_of name lines ≡ Some place → is_service_of (realm_among lines) name ≡ is_kept
    → leaving name lines ≡ (if is_kept then Err KeptAccount else Ok tt)
leaving-there name lines place is_kept found kept = rw (found, kept) refl

pub leaving-none : (name : List Bytes) (lines : List Line) → place_of name lines ≡ None → leaving name lines ≡ Err Unknown
leaving-none name lines none = rw none refl

pub staying-there : (name : List Bytes) (lines : List Line) (place : ℕ) → place_of name lines ≡ Some place → staying name lines ≡ Ok tt
staying-there name lines place found = rw found refl

pub staying-none : (name : List Bytes) (lines : List Line) → place_of name lines ≡ None → staying name lines ≡ Err Unknown
staying-none name lines none = rw none refl
