-- Arrays (C706, section 14.3.3).
use Rattle.std.specs.Prelude.{ℕ, zero, suc, ◌+◌, nat_eq, List, [], ◌∷◌, ◌++◌, Result, Ok, Err, if◌then◌else◌}
use Rattle.byte_streams.specs.Numbers.{le32_at}
use Rattle.krb_pac.specs.declared.error.PacFault.{PacFault}
use Rattle.krb_pac.specs.declared.error.PacFault.TheVariants.{Count, Null}
use Rattle.krb_pac.specs.Numbers.{u32_at}
use Rattle.krb_pac.specs.Reading.{◌>>=◌}

-- The count of an array at a place is the one that its structure states (C706, section 14.3.3). Test: `refused Count` of `pac.txt`.
unfoldable pub count_at : ℕ → ℕ → List ℕ → Result ℕ PacFault
count_at count place whole = do
  told ← u32_at place whole
  if nat_eq told.0 count then Ok told.1 else Err Count

-- These values in front of those.
abbrev pub in_front : {A : Type 0} → List A → Result (List A × ℕ) PacFault → Result (List A × ℕ) PacFault
in_front xs r = r >>= (λ found. Ok (xs ++ found.0, found.1))

-- So many values, each from the place behind the one before it on, and the place behind them.
abbrev pub each_at : {A : Type 0} → (ℕ → List ℕ → Result (A × ℕ) PacFault) → ℕ → ℕ → List ℕ → Result (List A × ℕ) PacFault
each_at one zero place whole = Ok ([], place)
each_at one (suc n) place whole = one place whole >>= (λ a. in_front (a.0 ∷ []) (each_at one n a.1 whole))

-- An array has the count and the pointer at `head`, and a null pointer has the count 0 (MS-PAC, section 2.5). Test: `refused Null`
-- of `pac.txt`.
unfoldable pub listed_at : {A : Type 0} → (ℕ → List ℕ → Result (A × ℕ) PacFault) → ℕ → ℕ → List ℕ → Result (List A × ℕ) PacFault
listed_at one head place whole =
    if nat_eq (le32_at (head + 4) whole) 0 then (
    if nat_eq (le32_at head whole) 0 then Ok ([], place) else Err Null
    ) else (count_at (le32_at head whole) place whole >>= (λ begin. each_at one (le32_at head whole) begin whole))
