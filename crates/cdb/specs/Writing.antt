-- Which records no database is written of.
use Rattle.std.specs.Prelude.{◌≡◌, ◌≢◌, ◌⊎◌, ℕ, ◌+◌, ◌-◌, ◌*◌, ◌^◌, ◌<◌, ◌≤◌, true, List, [], ◌∷◌, length, get_or}
use Rattle.std.specs.Cmp.Lexicographic.{slice_cmp}
use Rattle.std.specs.List.{Any}
use Rattle.std.specs.Ordering.{is_gt, nat_cmp}
use Rattle.cdb.specs.declared.format.TheConstants.{HEADER_SIZE, KEY_LIMIT, PAIR_SIZE}
use Rattle.cdb.specs.declared.records.Record.{Record}
use Rattle.cdb.specs.declared.writing.WriteFault.{WriteFault}
use Rattle.cdb.specs.declared.writing.WriteFault.TheVariants.{Large, Memory, Unsound}
use Rattle.cdb.specs.Database.{record_size}

-- How many octets a record takes in a database: its own, and those of two slots.
abbrev pub entry_size : Record → ℕ
entry_size r = record_size r + 2 * PAIR_SIZE

-- How many octets records take.
abbrev pub entries_size : List Record → ℕ
entries_size [] = 0
entries_size (r ∷ records) = entry_size r + entries_size records

-- How many octets a database of the records has, at two slots for each record.
abbrev pub database_size : List Record → ℕ
database_size records = HEADER_SIZE + entries_size records

-- The record's key is too long, or its data are longer than a reader has room for.
abbrev pub IsOverlong : ℕ → Record → Type 0
IsOverlong room r = (KEY_LIMIT < length r.key.items) ⊎ (room < length r.content.items)

-- The next record's key comes before the record's, octet by octet, or is the same with other data.
abbrev pub Clash : Record → Record → Type 0
Clash r next = (is_gt (slice_cmp nat_cmp r.key.items next.key.items) ≡ true) ⊎ ((r.key.items ≡ next.key.items) × (r.content.items ≢ next.content.items))

-- Two neighbours clash.
abbrev pub HasClash : List Record → Type 0
HasClash records = (index : ℕ) × (0 < index) × (index < length records) × ((d : Record) → Clash (get_or records (index - 1) d) (get_or records index d))

-- A record is too long, or two neighbours clash.
abbrev pub IsUnsound : ℕ → List Record → Type 0
IsUnsound room records = Any (IsOverlong room) records ⊎ HasClash records

-- Why no database is written.
abbrev pub IsWriteFault : ℕ → List Record → WriteFault → Type 0
IsWriteFault room records Large = 2 ^ 32 ≤ database_size records
IsWriteFault room records Unsound = IsUnsound room records
IsWriteFault room records Memory = Unit {0}
