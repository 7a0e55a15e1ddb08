-- A source of which the next octet may have been looked at.
use Rattle.std.specs.Prelude.{ℕ, List, [], ◌∷◌, Bool, is_some, Option, None, Some}
use Rattle.std.specs.Borrow.{GName}
use Rattle.std.specs.declared.io.ErrorKind.{ErrorKind}
use Rattle.std.specs.Io.KnownBytes.{prepend_known}
use Rattle.byte_streams.specs.declared.peek.PeekableReader.{PeekableReader}

-- what is left: the octet that was looked at, and what the source gives
abbrev pub seen : Option ℕ → Option (List ℕ) → Option (List ℕ)
seen (Some octet) left = prepend_known (octet ∷ []) left
seen None left = left

-- what is left of a peekable reader, by what is left of its source
abbrev pub left_of : {R : Type 0} → (R → Option (List ℕ)) → PeekableReader R → Option (List ℕ)
left_of left p = seen p.looked (left p.reader)

-- how many of its calls failed
abbrev pub failed_of : {R : Type 0} → (R → ℕ) → PeekableReader R → ℕ
failed_of failed p = failed p.reader

-- whether its next octet was looked at
abbrev pub looked_of : {R : Type 0} → PeekableReader R → Bool
looked_of p = is_some p.looked

-- why the last of its calls that failed did so
abbrev pub kind_of : {R : Type 0} → (R → Option ErrorKind) → PeekableReader R → Option ErrorKind
kind_of kind p = kind p.reader

-- the references that it reads through
abbrev pub names_of : {R : Type 0} → (R → List GName) → PeekableReader R → List GName
names_of names p = names p.reader
