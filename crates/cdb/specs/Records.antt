-- Records, and what they answer of a key.
use Rattle.std.specs.Prelude.{◌≡◌, ◌≢◌, ◌⊎◌, ℕ, ◌<◌, nat_eq, false, List, [], ◌∷◌, length, Option, None, Some, Ok, Err, if◌then◌else◌}
use Rattle.std.specs.Cmp.Lexicographic.{pointwise, slice_cmp}
use Rattle.std.specs.List.{AllPairs, Any}
use Rattle.std.specs.Ordering.{is_gt, nat_cmp}
use Rattle.cdb.specs.declared.fault.Fault.{Fault}
use Rattle.cdb.specs.declared.fault.Fault.TheVariants.{Damaged, Long}
use Rattle.cdb.specs.declared.format.TheConstants.{KEY_LIMIT}
use Rattle.cdb.specs.Check.{HasOther, IsCut, Judges}
use Rattle.cdb.specs.Find.{looked_up}
use Rattle.cdb.specs.declared.records.Record.{Record}

-- Some record has the key.
abbrev pub Has : List Record → List ℕ → Type 0
Has [] key = ⊥
Has (r ∷ rs) key = (r.key.items ≡ key) ⊎ Has rs key

-- The data of the first record with the key, if a record has it.
abbrev pub answer : List Record → List ℕ → Option (List ℕ)
answer [] key = None
answer (r ∷ rs) key = if pointwise nat_eq r.key.items key then Some r.content.items else answer rs key

-- A look-up of the record's key finds its data.
abbrev pub Holds : ℕ → List ℕ → Record → Type 0
Holds room bytes r = looked_up room bytes r.key.items ≡ Ok (Some r.content.items)

-- A record's key doesn't come after a later record's key, octet by octet.
abbrev pub AreInOrder : List Record → Type 0
AreInOrder = AllPairs (λ r later. is_gt (slice_cmp nat_cmp r.key.items later.key.items) ≡ false)

-- No record has the key, unless the records are out of order.
abbrev pub Lacks : List Record → List ℕ → Type 0
Lacks records key = AreInOrder records → Has records key → ⊥

-- The record's key is too long, or a look-up of it finds no data or others.
abbrev pub IsUnheld : ℕ → List ℕ → Record → Type 0
IsUnheld room bytes r = (KEY_LIMIT < length r.key.items) ⊎ ((found : Option (List ℕ)) × (looked_up room bytes r.key.items ≡ Ok found) × (found ≢ Some r.content.items))

-- A look-up of the record's key is refused so.
abbrev pub IsRefused : Fault → ℕ → List ℕ → Record → Type 0
IsRefused fault room bytes r = looked_up room bytes r.key.items ≡ Err fault

-- A look-up of each key finds what the records say.
abbrev pub Answers : ℕ → List ℕ → List Record → Type 0
Answers room bytes records = (key : List ℕ) → looked_up room bytes key ≡ Ok (answer records key)

-- Why a file doesn't answer as the records do: it has another key, or a record that it doesn't find.
abbrev pub Differs : ℕ → List ℕ → List Record → Type 0
Differs room bytes records = HasOther (Lacks records) bytes ⊎ Any (IsUnheld room bytes) records

-- Why a check of a file is refused as damaged: the file states a position past its end, for a key or for a record's data.
abbrev pub IsDamaged : ℕ → List ℕ → List Record → Type 0
IsDamaged room bytes records = IsCut bytes ⊎ Any (IsRefused Damaged room bytes) records
