-- A row of a table in memory, beside that of the table that it shows.
use Rattle.std.proofs.Common.{◌≡◌, ℕ, nat_eq, true, false, cond, List, [], ◌∷◌, map, Some, option_map, Bor, refl}
use Rattle.std.specs.List.{find}
use Rattle.krb_constants.specs.ErrorNames.{name_in}

abbrev pub shown : ℕ × Bor (List ℕ) → ℕ × List ℕ
shown row = (row.0, row.1.now)

pub shown_name : (rows : List (ℕ × Bor (List ℕ))) (code : ℕ)
    → option_map (λ (row : ℕ × Bor (List ℕ)). row.1.now) (find (λ (row : ℕ × Bor (List ℕ)). nat_eq row.0 code) rows) ≡ name_in (map shown rows) code
shown_name [] code = refl
shown_name (row ∷ rows) code =
    elim (nat_eq row.0 code) as (λ met. option_map (λ (r : ℕ × Bor (List ℕ)). r.1.now) (cond met (Some row) (find (λ (r : ℕ × Bor (List ℕ)). nat_eq r.0 code) rows))
    ≡ option_map (λ (r : ℕ × List ℕ). r.1) (cond met (Some (shown row)) (find (λ (r : ℕ × List ℕ). nat_eq r.0 code) (map shown rows)))) [
      | true ↦ refl
      | false ↦ shown_name rows code
    ]
