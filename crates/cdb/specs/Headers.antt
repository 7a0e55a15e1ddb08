-- A file whose header was read.
use Rattle.std.specs.Prelude.{ℕ, nat_eq, List, [], length, take, Option, None, Some, if◌then◌else◌}
use Rattle.std.specs.Cmp.Lexicographic.{pointwise}
use Rattle.cdb.specs.declared.headed.Headed.{Headed}

-- The file that it has.
abbrev pub file_of : {F : Type 0} → Headed F → F
file_of own = own.file

-- The octets at the file's front that were read.
abbrev pub front_of : {F : Type 0} → Headed F → List ℕ
front_of own = if own.is_read then own.header else []

-- A file's octets, where they are known and these are those at its front.
unfoldable pub content_behind : List ℕ → Option (List ℕ) → Option (List ℕ)
content_behind front None = None
content_behind front (Some bytes) = if pointwise nat_eq (take (length front) bytes) front then Some bytes else None
