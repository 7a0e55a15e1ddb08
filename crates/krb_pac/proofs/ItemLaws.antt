-- Values behind one another.
use Rattle.std.proofs.Common.{◌≡◌, ℕ, suc, ◌+◌, ◌<◌, List, [], ◌∷◌, ◌++◌, length, get_or, drop, Result, Ok, Err, refl, ap, sym, ◌∙◌, append_assoc, append-nil}
use Rattle.std.proofs.lemmas.List.{drop_more}
use Rattle.krb_pac.specs.declared.error.PacFault.{PacFault}
use Rattle.krb_pac.specs.declared.extra_sids.SidRow.{SidRow}
use Rattle.krb_pac.specs.Reading.{◌>>=◌}
use Rattle.krb_pac.specs.Arrays.{in_front, each_at}
use Rattle.krb_pac.specs.Sids.{SidParts, rpc_sid_at}
use Rattle.krb_pac.specs.ExtraSids.{SidAndAttributes, extra_of, sids_at}

pub front-join : {A : Type 0} (xs ys : List A) (r : Result (List A × ℕ) PacFault) → in_front (xs ++ ys) r ≡ in_front xs (in_front ys r)
front-join xs ys (Ok zs) = ap (λ l. Ok (l, zs.1)) (append_assoc xs ys zs.0)
front-join xs ys (Err e) = refl

-- so many values, by the first of them
pub list-left : {A : Type 0} (one : ℕ → List ℕ → Result (A × ℕ) PacFault) (n m place : ℕ) (whole : List ℕ) (first : Result (A × ℕ) PacFault) → n ≡ suc m
    → one place whole ≡ first → each_at one n place whole ≡ (first >>= (λ a. in_front (a.0 ∷ []) (each_at one m a.1 whole)))
list-left {A = A} one n m place whole first more is =
    ap (λ (k : ℕ). each_at one k place whole) more
    ∙ ap (λ (r : Result (A × ℕ) PacFault). r >>= (λ a. in_front (a.0 ∷ []) (each_at one m a.1 whole))) is

-- one value more is read
pub list-more : {A : Type 0} (one : ℕ → List ℕ → Result (A × ℕ) PacFault) (xs ys : List A) (x : A) (n m start count place next : ℕ) (whole : List ℕ)
    → n ≡ suc m → one place whole ≡ Ok (x, next) → ys ≡ xs ++ x ∷ [] → in_front xs (each_at one n place whole) ≡ each_at one count start whole
    → in_front ys (each_at one m next whole) ≡ each_at one count start whole
list-more {A = A} one xs ys x n m start count place next whole more is grown so_far =
    let rest = each_at one m next whole in
    ap (λ (l : List A). in_front l rest) grown ∙ front-join xs (x ∷ []) rest
    ∙ ap (in_front xs) (sym (list-left one n m place whole (Ok (x, next)) more is)) ∙ so_far

-- all values are read
pub list-done : {A : Type 0} (one : ℕ → List ℕ → Result (A × ℕ) PacFault) (xs : List A) (n start count place : ℕ) (whole : List ℕ) → n ≡ 0
    → in_front xs (each_at one n place whole) ≡ each_at one count start whole → each_at one count start whole ≡ Ok (xs, place)
list-done {A = A} one xs n start count place whole none so_far =
    sym so_far ∙ ap (λ (k : ℕ). in_front xs (each_at one k place whole)) none ∙ ap (λ (l : List A). Ok (l, place)) (append-nil xs)

-- the SIDs of the rows, by the first of them
pub sids-left : (left rest : List SidRow) (row : SidRow) (place : ℕ) (whole : List ℕ) (first : Result (SidParts × ℕ) PacFault) → left ≡ row ∷ rest
    → rpc_sid_at place whole ≡ first → sids_at left place whole ≡ (first >>= (λ sid. in_front (extra_of sid.0 row ∷ []) (sids_at rest sid.1 whole)))
sids-left left rest row place whole first more is =
    ap (λ (l : List SidRow). sids_at l place whole) more
    ∙ ap (λ (r : Result (SidParts × ℕ) PacFault). r >>= (λ sid. in_front (extra_of sid.0 row ∷ []) (sids_at rest sid.1 whole))) is

-- one SID more is read, of the row at this index
pub sids-more : (rows : List SidRow) (i : ℕ) (row : SidRow) (xs ys : List SidAndAttributes) (sid : SidParts) (place next : ℕ) (whole : List ℕ)
    (said : Result (List SidAndAttributes × ℕ) PacFault) → ys ≡ xs ++ extra_of sid (get_or rows i row) ∷ [] → i < length rows
    → rpc_sid_at place whole ≡ Ok (sid, next) → in_front xs (sids_at (drop i rows) place whole) ≡ said
    → in_front ys (sids_at (drop (i + 1) rows) next whole) ≡ said
sids-more rows i row xs ys sid place next whole said grown inside is so_far =
    let this = get_or rows i row in
    let behind = sids_at (drop (i + 1) rows) next whole in
    ap (λ (l : List SidAndAttributes). in_front l behind) grown ∙ front-join xs (extra_of sid this ∷ []) behind
    ∙ ap (in_front xs) (sym (sids-left (drop i rows) (drop (i + 1) rows) this place whole (Ok (sid, next)) (drop_more rows i row inside) is)) ∙ so_far

-- the SID of the row at this index is refused
pub sids-refused : (rows : List SidRow) (i : ℕ) (row : SidRow) (xs : List SidAndAttributes) (place : ℕ) (whole : List ℕ) (e : PacFault)
    (said : Result (List SidAndAttributes × ℕ) PacFault) → i < length rows → rpc_sid_at place whole ≡ Err e
    → in_front xs (sids_at (drop i rows) place whole) ≡ said → said ≡ Err e
sids-refused rows i row xs place whole e said inside is so_far =
    let this = get_or rows i row in
    sym so_far ∙ ap (in_front xs) (sids-left (drop i rows) (drop (i + 1) rows) this place whole (Err e) (drop_more rows i row inside) is)

-- all SIDs are read
pub sids-done : (left : List SidRow) (xs : List SidAndAttributes) (place : ℕ) (whole : List ℕ) (said : Result (List SidAndAttributes × ℕ) PacFault)
    → left ≡ [] → in_front xs (sids_at left place whole) ≡ said → said ≡ Ok (xs, place)
sids-done left xs place whole said none so_far =
    sym so_far ∙ ap (λ (l : List SidRow). in_front xs (sids_at l place whole)) none ∙ ap (λ (l : List SidAndAttributes). Ok (l, place)) (append-nil xs)
