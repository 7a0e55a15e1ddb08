-- The format cdb (D. J. Bernstein, 'A structure for constant databases'): what a file's octets have under a key.
use Rattle.std.specs.Prelude.{◌≡◌, ℕ, zero, suc, ◌+◌, ◌*◌, ◌/◌, ◌%◌, ◌==◌, nat_lt, nat_eq, Bool, not, List, length, take, drop, Option, None, Some, Result, Ok, Err, if◌then◌else◌}
use Rattle.std.specs.Cmp.Lexicographic.{pointwise}
use Rattle.std.specs.declared.io.ErrorKind.{ErrorKind}
use Rattle.byte_streams.specs.Numbers.{le32_at}
use Rattle.cdb.specs.declared.fault.Fault.{Fault}
use Rattle.cdb.specs.declared.fault.Fault.TheVariants.{Damaged, Long}
use Rattle.cdb.specs.declared.format.TheConstants.{TABLES, PAIR_SIZE}
use Rattle.cdb.specs.declared.tables.Found.{Found}
use Rattle.cdb.specs.declared.tables.SlotOutcome.{SlotOutcome}
use Rattle.cdb.specs.declared.tables.SlotOutcome.TheVariants as outcome
use Rattle.cdb.specs.Hash.{hash_of}
use Rattle.cdb.specs.Reading.{◌>>=◌, Fails}

-- So many octets from a position on. A file that ends before is damaged.
unfoldable pub part_at : ℕ → ℕ → List ℕ → Result (List ℕ) Fault
part_at position size bytes = if nat_lt (length bytes) (position + size) then Err Damaged else Ok (take size (drop position bytes))

-- The two numbers of a pointer, of a slot, or of a record's front. Each has four octets, the lowest first.
unfoldable pub pair_at : ℕ → List ℕ → Result (ℕ × ℕ) Fault
pair_at position bytes = do
  part ← part_at position PAIR_SIZE bytes
  Ok (le32_at 0 part, le32_at 4 part)

-- Whether the octets at a position are the key.
unfoldable pub stands_at : ℕ → List ℕ → List ℕ → Result Bool Fault
stands_at position key bytes = do
  part ← part_at position (length key) bytes
  Ok (pointwise nat_eq part key)

-- What a record says of a key. A record is the length of its key, the length of its data, the key, and the data.
unfoldable pub in_record : List ℕ → ℕ → List ℕ → Result SlotOutcome Fault
in_record key at bytes = do
  sizes ← pair_at at bytes
  if not (sizes.0 == length key) then Ok outcome.Other else (do
    same ← stands_at (at + PAIR_SIZE) key bytes
    if not same then Ok outcome.Other else Ok (outcome.Found (record { position = at + PAIR_SIZE + sizes.0; size = sizes.1 })))

-- What a slot of a hash table says of a key with this hash. A slot is a hash and the position of a record. The position 0 says that
-- the slot is empty.
unfoldable pub in_slot : List ℕ → ℕ → ℕ → List ℕ → Result SlotOutcome Fault
in_slot key hash position bytes = do
  slot ← pair_at position bytes
  if slot.1 == 0 then Ok outcome.Empty else (if not (slot.0 == hash) then Ok outcome.Other else in_record key slot.1 bytes)

-- The slot that follows this one, of so many. The first slot follows the last.
abbrev pub following : ℕ → ℕ → ℕ
following slot slots = if slot + 1 == slots then 0 else slot + 1

-- The end of a search at a slot: a record with the key and an empty slot end it, and another key's record doesn't.
abbrev pub concluded : Result (Option Found) Fault → SlotOutcome → Result (Option Found) Fault
concluded rest (outcome.Found found) = Ok (Some found)
concluded rest outcome.Empty = Ok None
concluded rest outcome.Other = rest

-- The search for a key from a slot on, in a hash table that begins at a position and has so many slots. It ends after as many slots
-- as the last number says.
unfoldable pub probed : List ℕ → ℕ → ℕ → ℕ → List ℕ → ℕ → ℕ → Result (Option Found) Fault
probed key hash start slots bytes slot zero = Ok None
probed key hash start slots bytes slot (suc left) =
    in_slot key hash (start + PAIR_SIZE * slot) bytes >>= concluded (probed key hash start slots bytes (following slot slots) left)

-- Where a key's data are, if the file has the key. The file begins with 256 pointers, each the position of a hash table and the count
-- of its slots. The hash modulo 256 is the number of the key's table. The hash divided by 256, modulo the count, is the slot at which
-- the search starts.
unfoldable pub find_in : List ℕ → List ℕ → Result (Option Found) Fault
find_in bytes key = do
  table ← pair_at (hash_of key % TABLES * PAIR_SIZE) bytes
  if table.1 == 0 then Ok None else probed key (hash_of key) table.0 table.1 bytes (hash_of key / TABLES % table.1) table.1

-- The data that were found, of at most so many octets.
abbrev pub data_at : ℕ → List ℕ → Option Found → Result (Option (List ℕ)) Fault
data_at room bytes None = Ok None
data_at room bytes (Some found) =
    if nat_lt room found.size then Err Long else (part_at found.position found.size bytes >>= λ part. Ok (Some part))

-- A key's data of at most so many octets, if the file has the key.
unfoldable pub looked_up : ℕ → List ℕ → List ℕ → Result (Option (List ℕ)) Fault
looked_up room bytes key = find_in bytes key >>= data_at room bytes

-- A look-up returned how many octets at the buffer's front are the data, or that there are none, or the refusal that the file's octets
-- give, or the file fails by such a kind of fault.
abbrev pub GivesData : (ErrorKind → Type 0) → Result (Option ℕ) Fault → List ℕ → Result (Option (List ℕ)) Fault → Type 0
GivesData fails (Ok None) buffer said = said ≡ Ok None
GivesData fails (Ok (Some n)) buffer said = said ≡ Ok (Some (take n buffer))
GivesData fails (Err fault) buffer said = Fails fails fault said
