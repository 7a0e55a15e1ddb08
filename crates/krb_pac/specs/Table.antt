-- The table of a PAC (MS-PAC, sections 2.3 and 2.4).
use Rattle.std.specs.Prelude.{ℕ, ◌+◌, ◌-◌, nat_eq, nat_lt, is_some, List, [], ◌∷◌, length, take, drop, Option, Some, None, Result, Ok, Err, if◌then◌else◌}
use Rattle.byte_streams.specs.Numbers.{le32_at, le64_at}
use Rattle.microsoft_messages.specs.declared.pac.kind.PacBufferType.{PacBufferType}
use Rattle.microsoft_messages.specs.Kinds.{kind_number}
use Rattle.krb_pac.specs.declared.error.PacFault.{PacFault}
use Rattle.krb_pac.specs.declared.error.PacFault.TheVariants.{Short, Version, Range, Twice, Missing}
use Rattle.krb_pac.specs.declared.table.PacRow.{PacRow}
use Rattle.krb_pac.specs.Arrays.{each_at}
use Rattle.krb_pac.specs.Reading.{◌>>=◌}

-- A PAC_INFO_BUFFER: ulType at 0, cbBufferSize at 4 and Offset at 8. Also the place behind it.
unfoldable pub row_at : ℕ → List ℕ → Result (PacRow × ℕ) PacFault
row_at place whole =
    if nat_lt (length whole - place) 16 then Err Short
    else Ok (record { number = le32_at place whole; size = le32_at (place + 4) whole; offset = le64_at (place + 8) whole }, place + 16)

-- A PAC begins with cBuffers, the count of its rows, and Version, which is 0 (MS-PAC, section 2.3). Test: `refused Version` of
-- `verified_pac.txt`.
unfoldable pub rows_of : List ℕ → Result (List PacRow) PacFault
rows_of whole =
    if nat_lt (length whole) 8 then Err Short
    else if nat_eq (le32_at 4 whole) 0 then (each_at row_at (le32_at 0 whole) 8 whole >>= (λ rows. Ok rows.0)) else Err Version

-- The row of this ulType that was found, after one more row.
unfoldable pub taken : ℕ → Option PacRow → PacRow → Result (Option PacRow) PacFault
taken number found row = if nat_eq row.number number then (if is_some found then Err Twice else Ok (Some row)) else Ok found

-- The only row of this ulType: another one is refused.
-- Ignored: buffers of a ulType that isn't known (MS-PAC, section 2.4). Test: `verified_pac.txt`.
abbrev pub sole_from : ℕ → Option PacRow → List PacRow → Result (Option PacRow) PacFault
sole_from number found [] = Ok found
sole_from number found (row ∷ rows) = taken number found row >>= (λ now. sole_from number now rows)

-- A PAC has one buffer of a type at most (MS-PAC, section 2.4). Test: `refused Twice` of `verified_pac.txt`.
abbrev pub row_of : PacBufferType → List PacRow → Result (Option PacRow) PacFault
row_of kind rows = sole_from (kind_number kind) None rows

-- The row that was found.
abbrev pub set_row : Option PacRow → Result PacRow PacFault
set_row None = Err Missing
set_row (Some row) = Ok row

-- The only row of a type, which is there.
abbrev pub needed_row : PacBufferType → List PacRow → Result PacRow PacFault
needed_row kind rows = row_of kind rows >>= set_row

-- The content of a buffer ends within the PAC (MS-PAC, section 2.4). Test: `refused Range` of `verified_pac.txt`.
unfoldable pub content_of : PacRow → List ℕ → Result (List ℕ) PacFault
content_of row whole =
    if nat_lt (length whole) (row.offset + row.size) then Err Range else Ok (take row.size (drop row.offset whole))

-- The content of the row that was found, if one was.
abbrev pub set_content : List ℕ → Option PacRow → Result (Option (List ℕ)) PacFault
set_content whole None = Ok None
set_content whole (Some row) = content_of row whole >>= (λ content. Ok (Some content))

-- The content of the only buffer of a type in a PAC, if there is one.
unfoldable pub content_in : PacBufferType → List ℕ → Result (Option (List ℕ)) PacFault
content_in kind whole = do
  rows ← rows_of whole
  found ← row_of kind rows
  set_content whole found

-- What a content is read as, if there is one.
abbrev pub read_found : {A : Type 0} → (List ℕ → Result A PacFault) → Option (List ℕ) → Result (Option A) PacFault
read_found read None = Ok None
read_found read (Some content) = read content >>= (λ value. Ok (Some value))

-- What the only buffer of a type in a PAC is read as, if there is one.
abbrev pub read_in : {A : Type 0} → (List ℕ → Result A PacFault) → PacBufferType → List ℕ → Result (Option A) PacFault
read_in read kind whole = content_in kind whole >>= read_found read
