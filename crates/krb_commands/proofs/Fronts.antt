-- The fronts of files that show their kinds.
use Rattle.std.proofs.Common.{◌≡◌, ℕ, suc, ◌+◌, ◌-◌, ◌*◌, ◌<◌, ◌≤◌, ◌==◌, ◌&&◌, Bool, true, false, List, refl, ap, ◌∙◌, arith}
use Rattle.std.proofs.lemmas.Bool.{eq-eqb, ne_eqb}
use Rattle.byte_streams.specs.Numbers.{le32_at}
use Rattle.krb_commands.specs.Kinds.{all_joined, are_joined}

-- the pointer of a table is the first of those that are left
abbrev joined_rest : ℕ → ℕ → List ℕ → Bool
joined_rest table start front = are_joined (256 - (table + 1)) (table * 8 + 8) (start + le32_at (table * 8 + 4) front * 8) front

first_left : (table start : ℕ) (front : List ℕ) → table < 256
    → are_joined (256 - table) (table * 8) start front ≡ ((le32_at (table * 8) front == start) && joined_rest table start front)
first_left table start front below =
    let one_more : 256 - table ≡ suc (256 - (table + 1)) = omega (arith, below) in
    ap (λ left. are_joined left (table * 8) start front) one_more

-- at the start no table is judged
pub joined_start : (start : ℕ) (front : List ℕ) → are_joined (256 - 0) (0 * 8) start front ≡ all_joined start front
unfolding all_joined
joined_start start front = refl

-- a table that stands at its place: the later ones decide
pub joined_step : (table start : ℕ) (front : List ℕ) → table < 256 → le32_at (table * 8) front ≡ start
    → are_joined (256 - table) (table * 8) start front ≡ are_joined (256 - (table + 1)) ((table + 1) * 8) (start + le32_at (table * 8 + 4) front * 8) front
joined_step table start front below stands =
    let next : table * 8 + 8 ≡ (table + 1) * 8 = omega arith in
    first_left table start front below
    ∙ ap (λ test. test && joined_rest table start front) (eq-eqb (le32_at (table * 8) front) start stands)
    ∙ ap (λ place. are_joined (256 - (table + 1)) place (start + le32_at (table * 8 + 4) front * 8) front) next

-- a table that stands elsewhere
pub joined_stop : (table start : ℕ) (front : List ℕ) → table < 256 → (le32_at (table * 8) front ≡ start → ⊥)
    → are_joined (256 - table) (table * 8) start front ≡ false
joined_stop table start front below other =
    first_left table start front below ∙ ap (λ test. test && joined_rest table start front) (ne_eqb (le32_at (table * 8) front) start other)

-- all tables stand at their places
pub joined_all : (table start : ℕ) (front : List ℕ) → 256 ≤ table → are_joined (256 - table) (table * 8) start front ≡ true
joined_all table start front all =
    let none : 256 - table ≡ 0 = omega (arith, all) in
    ap (λ left. are_joined left (table * 8) start front) none
