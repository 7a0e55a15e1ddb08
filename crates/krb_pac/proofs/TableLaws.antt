-- Rows of a PAC, one after another.
use Rattle.std.proofs.Common.{◌≡◌, ℕ, ◌+◌, ◌<◌, ◌≤◌, List, length, get_or, drop, Option, Result, Ok, Err, IsErrAnd, ap, sym, ◌∙◌}
use Rattle.std.proofs.lemmas.List.{drop_more, drop_all}
use Rattle.krb_pac.specs.declared.error.PacFault.{PacFault}
use Rattle.krb_pac.specs.declared.table.PacRow.{PacRow}
use Rattle.krb_pac.specs.Reading.{◌>>=◌}
use Rattle.krb_pac.specs.Table.{taken, sole_from}

-- the exit of a `?` returns the fault
pub exit-is : {T : Type 0} (r : Result T PacFault) (e : PacFault) (said : Result T PacFault) → IsErrAnd r (λ y. y ≡ e) → said ≡ Err e → r ≡ said
exit-is (Ok x) e said is same = absurd is
exit-is {T = A} (Err y) e said is same = ap (λ (f : PacFault). let r : Result A PacFault = Err f in r) is ∙ sym same

-- the rows from this index on, by the first of them
sole-left : (number : ℕ) (found : Option PacRow) (rows : List PacRow) (i : ℕ) (row : PacRow) (next : Result (Option PacRow) PacFault) → i < length rows
    → next ≡ taken number found (get_or rows i row)
    → sole_from number found (drop i rows) ≡ (next >>= (λ now. sole_from number now (drop (i + 1) rows)))
sole-left number found rows i row next inside is =
    ap (sole_from number found) (drop_more rows i row inside)
    ∙ ap (λ (r : Result (Option PacRow) PacFault). r >>= (λ now. sole_from number now (drop (i + 1) rows))) (sym is)

-- one row more
pub sole-more : (number : ℕ) (found now : Option PacRow) (rows : List PacRow) (i : ℕ) (row : PacRow) (said : Result (Option PacRow) PacFault)
    → Ok now ≡ taken number found (get_or rows i row) → i < length rows → sole_from number found (drop i rows) ≡ said
    → sole_from number now (drop (i + 1) rows) ≡ said
sole-more number found now rows i row said is inside so_far = sym (sole-left number found rows i row (Ok now) inside is) ∙ so_far

-- a row is refused
pub sole-refused : (number : ℕ) (found : Option PacRow) (rows : List PacRow) (i : ℕ) (row : PacRow) (e : PacFault) (said : Result (Option PacRow) PacFault)
    → Err e ≡ taken number found (get_or rows i row) → i < length rows → sole_from number found (drop i rows) ≡ said → said ≡ Err e
sole-refused number found rows i row e said is inside so_far = sym so_far ∙ sole-left number found rows i row (Err e) inside is

-- all rows
pub sole-done : (number : ℕ) (found : Option PacRow) (rows : List PacRow) (i : ℕ) (said : Result (Option PacRow) PacFault) → length rows ≤ i
    → sole_from number found (drop i rows) ≡ said → Ok found ≡ said
sole-done number found rows i said past so_far = sym (ap (sole_from number found) (drop_all i rows past)) ∙ so_far
