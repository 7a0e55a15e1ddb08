-- Values behind one another: what is laid out is read, and what is read is laid out.
use Rattle.std.proofs.Common.{◌≡◌, ℕ, zero, suc, ◌+◌, ◌-◌, ◌<◌, ◌≤◌, List, [], ◌∷◌, ◌++◌, length, take, drop, Result, Ok, Err, nat_lt, inl, inr, refl, ap, sym, ◌∙◌, append_assoc, append-nil, arith}
use Rattle.std.proofs.lemmas.List.{length-append, length-take-le, length-drop, drop-take, drop_all}
use Rattle.byte_streams.proofs.NumberLaws.{AreBytes, bytes-cut}
use Rattle.krb_file_formats.specs.Reading.{and_then, followed}
use Rattle.krb_file_formats.proofs.PlaceLaws.{IsFrom, behind, cut, left, passes, holds, not-below, is-below, enough}
use Rattle.krb_file_formats.proofs.AgainLaws.{step}
use Rattle.krb_file_formats.proofs.LoopLaws.{followed-join}
use Rattle.krb_file_formats.proofs.FoundLaws.{ahead-join, ahead-as, then-ok, as-read, if-ok, cut-ahead}
use Rattle.krb_file_formats.proofs.KeytabLaws.{either}
use Rattle.krb_file_formats.specs.Formats.{Format, AllFit, all_at, all_from, in_front, list_at, list_bytes, listed, repeated, within}
use Rattle.krb_file_formats.specs.declared.credential_caches.fault.CacheFault.{CacheFault}
use Rattle.krb_file_formats.proofs.FormatLaws.{HasLaws, IsThere, counted-laws, number32-laws}

pub front-join : {A : Type 0} (xs ys : List A) (r : Result (List A × ℕ) CacheFault) → in_front (xs ++ ys) r ≡ in_front xs (in_front ys r)
front-join xs ys (Ok zs) = ap (λ l. Ok (l, zs.1)) (append_assoc xs ys zs.0)
front-join xs ys (Err e) = refl

-- so many values, by the first of them
pub list-left : {A : Type 0} (F : Format A) (n m place : ℕ) (whole : List ℕ) (first : Result (A × ℕ) CacheFault) → n ≡ suc m → F.read place whole ≡ first
    → list_at F n place whole ≡ and_then first (λ a. in_front (a.0 ∷ []) (list_at F m a.1 whole))
list-left {A = A} F n m place whole first more is =
    ap (λ (k : ℕ). list_at F k place whole) more
    ∙ ap (λ (r : Result (A × ℕ) CacheFault). and_then r (λ a. in_front (a.0 ∷ []) (list_at F m a.1 whole))) is

-- values up to the end, by the first of them
pub all-left : {A : Type 0} (F : Format A) (n m place : ℕ) (whole : List ℕ) (first : Result (A × ℕ) CacheFault) → n ≡ suc m → place < length whole
    → F.read place whole ≡ first → all_at F n place whole ≡ and_then first (λ a. followed (a.0 ∷ []) (all_at F m a.1 whole))
all-left {A = A} F n m place whole first more inside is =
    ap (λ (k : ℕ). all_at F k place whole) more ∙ holds (nat_lt place (length whole)) _ _ (is-below (length whole) place inside)
    ∙ ap (λ (r : Result (A × ℕ) CacheFault). and_then r (λ a. followed (a.0 ∷ []) (all_at F m a.1 whole))) is

-- no value is left
pub none-left : {A : Type 0} (F : Format A) (n place : ℕ) (whole : List ℕ) → length whole ≤ place → all_at F n place whole ≡ Ok []
none-left F zero place whole past = refl
none-left F (suc n) place whole past = passes (nat_lt place (length whole)) _ _ (not-below (length whole) place past)

-- the values of the octets from a place up to the end
abbrev pub AreAll : {A : Type 0} → Format A → ℕ → List ℕ → List A → Type 0
AreAll F place whole xs = (drop place whole ≡ list_bytes F xs []) × AllFit F xs

-- one value more is read
pub list-more : {A : Type 0} (F : Format A) (xs ys : List A) (x : A) (n m start count place next : ℕ) (whole : List ℕ) → n ≡ suc m
    → F.read place whole ≡ Ok (x, next) → ys ≡ xs ++ x ∷ [] → in_front xs (list_at F n place whole) ≡ list_at F count start whole
    → in_front ys (list_at F m next whole) ≡ list_at F count start whole
list-more {A = A} F xs ys x n m start count place next whole more is grown so_far =
    let rest = list_at F m next whole in
    ap (λ (l : List A). in_front l rest) grown ∙ front-join xs (x ∷ []) rest
    ∙ ap (in_front xs) (sym (list-left F n m place whole (Ok (x, next)) more is)) ∙ so_far

-- all values are read
pub list-done : {A : Type 0} (F : Format A) (xs : List A) (n start count place : ℕ) (whole : List ℕ) → n ≡ 0
    → in_front xs (list_at F n place whole) ≡ list_at F count start whole → list_at F count start whole ≡ Ok (xs, place)
list-done {A = A} F xs n start count place whole none so_far =
    sym so_far ∙ ap (λ (k : ℕ). in_front xs (list_at F k place whole)) none ∙ ap (λ (l : List A). Ok (l, place)) (append-nil xs)

-- one value more is read, and the end isn't reached before
pub all-more : {A : Type 0} (F : Format A) (xs ys : List A) (x : A) (n m start count place next : ℕ) (whole : List ℕ) → n ≡ suc m → place < length whole
    → F.read place whole ≡ Ok (x, next) → ys ≡ xs ++ x ∷ [] → followed xs (all_at F n place whole) ≡ all_at F count start whole
    → followed ys (all_at F m next whole) ≡ all_at F count start whole
all-more {A = A} F xs ys x n m start count place next whole more inside is grown so_far =
    let rest = all_at F m next whole in
    ap (λ (l : List A). followed l rest) grown ∙ followed-join xs (x ∷ []) rest
    ∙ ap (followed xs) (sym (all-left F n m place whole (Ok (x, next)) more inside is)) ∙ so_far

-- nothing more is read
pub all-done : {A : Type 0} (F : Format A) (xs : List A) (n start count place : ℕ) (whole : List ℕ) → all_at F n place whole ≡ Ok []
    → followed xs (all_at F n place whole) ≡ all_at F count start whole → all_at F count start whole ≡ Ok xs
all-done {A = A} F xs n start count place whole none so_far =
    sym so_far ∙ ap (followed xs) none ∙ ap (λ (l : List A). Ok l) (append-nil xs)

module _ {A : Type 0} (F : Format A) (least : ℕ) (f : HasLaws A F least) where
  list-grows : (xs : List A) (more : List ℕ) → length more ≤ length (list_bytes F xs more)
  list-grows [] more = omega arith
  list-grows (x ∷ xs) more = omega (arith, list-grows xs more, f.grows x (list_bytes F xs more))

  list-again : (xs : List A) (place : ℕ) (more whole : List ℕ) → IsFrom place (list_bytes F xs more) whole → AllFit F xs
      → (next : ℕ) × (list_at F (length xs) place whole ≡ Ok (xs, next)) × IsFrom next more whole
  list-again [] place more whole from fits = (place, refl, from)
  list-again (x ∷ xs) place more whole from fits =
      let (at, one, rest) = f.again x place (list_bytes F xs more) whole from fits.0 in
      let (end, others, last) = list-again xs at more whole rest fits.1 in (
        end,
        step (F.read place whole) (x, at) (λ a. in_front (a.0 ∷ []) (list_at F (length xs) a.1 whole)) one ∙ ap (in_front (x ∷ [])) others,
        last,
      )

  list-found : (n : ℕ) (xs : List A × ℕ) (place : ℕ) (whole : List ℕ) → AreBytes whole → place ≤ length whole → list_at F n place whole ≡ Ok xs
      → IsThere (repeated F n) place whole xs
  list-found zero xs place whole bytes inside is =
      as-read (IsThere (repeated F zero) place whole) ([], place) xs is record { rest = refl; inside = inside; fits = (refl, tt) }
  list-found (suc n) xs place whole bytes inside is =
      let (a, is_a, later) = then-ok (F.read place whole) (λ a. in_front (a.0 ∷ []) (list_at F n a.1 whole)) xs is in
      let (others, are_others, made) = then-ok (list_at F n a.1 whole) (λ found. Ok ((a.0 ∷ []) ++ found.0, found.1)) xs later in
      let one = f.found a place whole bytes inside is_a in
      let rest = list-found n others a.1 whole bytes one.inside are_others in
      as-read (IsThere (repeated F (suc n)) place whole) (a.0 ∷ others.0, others.1) xs made
      (ahead-as (λ fits. (ap suc fits.1.0, (fits.0, fits.1.1))) (ahead-join one rest))

  pub repeated-laws : (n : ℕ) → HasLaws (List A) (repeated F n) 0
  repeated-laws n = record {
    again = λ xs place more whole from fits.
        let (next, is, rest) = list-again xs place more whole from fits.1 in
        (next, ap (λ (k : ℕ). list_at F k place whole) (sym fits.0) ∙ is, rest);
    found = λ xs place whole bytes inside is. list-found n xs place whole bytes inside is;
    grows = λ xs more. omega (arith, list-grows xs more);
  }

  pub listed-laws : HasLaws (List A) (listed F) 4
  listed-laws = counted-laws (λ xs. length xs) (repeated F) (λ n xs fits. fits.0) number32-laws repeated-laws

  pub all-again : 0 < least → (xs : List A) (n place : ℕ) (whole : List ℕ) → IsFrom place (list_bytes F xs []) whole → AllFit F xs
      → length whole ≤ place + n → all_at F n place whole ≡ Ok xs
  all-again some [] n place whole from fits fuel = none-left F n place whole (omega (arith, from.inside))
  all-again some (x ∷ xs) zero place whole from fits fuel =
      absurd (omega (arith, some, from.inside, fuel, f.grows x (list_bytes F xs [])))
  all-again some (x ∷ xs) (suc n) place whole from fits fuel =
      let rest = list_bytes F xs [] in
      let grows = f.grows x rest in
      let inside = from.inside in
      let (at, one, last) = f.again x place rest whole from fits.0 in
      let end = last.inside in
      all-left F (suc n) n place whole (Ok (x, at)) refl (omega (arith, some, inside, grows)) one
      ∙ ap (followed (x ∷ [])) (all-again some xs n at whole last fits.1 (omega (arith, some, inside, grows, end, fuel)))

  pub all-found : 0 < least → (n : ℕ) (xs : List A) (place : ℕ) (whole : List ℕ) → AreBytes whole → place ≤ length whole → length whole ≤ place + n
      → all_at F n place whole ≡ Ok xs → AreAll F place whole xs
  all-found some zero xs place whole bytes inside fuel is =
      as-read (AreAll F place whole) [] xs is (drop_all place whole (omega (arith, fuel)), tt)
  all-found some (suc n) xs place whole bytes inside fuel is =
      elim (either (nat_lt place (length whole)) _ _ xs is) [
        | inr (past, made) ↦ as-read (AreAll F place whole) [] xs made (drop_all place whole (enough _ _ past), tt)
        | inl (_, later) ↦
            let (a, is_a, more) = then-ok (F.read place whole) (λ a. followed (a.0 ∷ []) (all_at F n a.1 whole)) xs later in
            let (others, are_others, made) = then-ok (all_at F n a.1 whole) (λ ys. Ok ((a.0 ∷ []) ++ ys)) xs more in
            let one = f.found a place whole bytes inside is_a in
            let grows = f.grows a.0 (drop a.1 whole) in
            let long : length (drop place whole) ≡ length (F.bytes a.0 (drop a.1 whole)) = ap length one.rest in
            let end = one.inside in
            let rest = all-found some n others a.1 whole bytes end
            (omega (arith, some, inside, fuel, grows, long, end, length-drop place whole, length-drop a.1 whole)) are_others in
            as-read (AreAll F place whole) (a.0 ∷ others) xs made (one.rest ∙ ap (F.bytes a.0) rest.0, (one.fits, rest.1))
      ]

  pub within-laws : 0 < least → (n : ℕ) → HasLaws (List A) (within F n) 0
  within-laws some n = record {
    again = λ xs place more whole from fits.
        let body = list_bytes F xs [] in
        let size = fits.0 in
        let room : n ≤ length whole - place = omega (arith, left place (body ++ more) whole from, length-append body more, size) in
        let own = cut place (place + n) body more whole (omega (arith, size)) from in
        let all : all_from F place (take (place + n) whole) ≡ Ok xs = all-again some xs (length (take (place + n) whole)) place (take (place + n) whole) own fits.1 (omega arith) in (
          place + n,
          passes (nat_lt (length whole - place) n) _ _ (not-below n (length whole - place) room)
              ∙ step (all_from F place (take (place + n) whole)) xs (λ ys. Ok (ys, place + n)) all,
          behind place (place + n) body more whole (omega (arith, size)) from,
        );
    found = λ xs place whole bytes inside is.
        let (test, made) = if-ok (nat_lt (length whole - place) n) _ _ xs is in
        let room : n ≤ length whole - place = enough _ _ test in
        let front = take (place + n) whole in
        let (ys, is_ys, told) = then-ok (all_from F place front) (λ ys. Ok (ys, place + n)) xs made in
        let long : length front ≡ place + n = length-take-le (place + n) whole (omega (arith, room, inside)) in
        let all = all-found some (length front) ys place front (bytes-cut whole 0 (place + n) bytes) (omega (arith, long)) (omega arith) is_ys in
        let same : take n (drop place whole) ≡ list_bytes F ys [] = sym (drop-take place n whole) ∙ all.0 in
        let size : length (list_bytes F ys []) ≡ n =
        ap length (sym same) ∙ length-take-le n (drop place whole) (omega (arith, length-drop place whole, room)) in
        as-read (IsThere (within F n) place whole) (ys, place + n) xs told
        (cut-ahead place (place + n) n (list_bytes F ys []) whole refl (omega (arith, room, inside)) same (size, all.1));
    grows = λ xs more. omega (arith, length-append (list_bytes F xs []) more);
  }
