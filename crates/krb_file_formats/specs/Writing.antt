-- How a keytab is written.
use Rattle.std.specs.Prelude.{◌≡◌, ◌⊎◌, ℕ, ◌%◌, ◌<◌, ◌^◌, List, [], ◌∷◌, ◌++◌, length}
use Rattle.byte_streams.specs.Numbers.{be16}
use Rattle.krb_file_formats.specs.Numbers.{be32}
use Rattle.krb_file_formats.specs.Entries.{Entry, Fits, TextsFit, record_body}
use Rattle.krb_file_formats.specs.declared.fault.KeytabWriteFault.{KeytabWriteFault}
use Rattle.krb_file_formats.specs.declared.fault.KeytabWriteFault.TheVariants.{TooLong, Memory}

-- a record with its kvno twice: its lowest 8 bits, and all 32 behind the key
abbrev pub written : Entry → List ℕ
written e = record_body e (e.kvno % 256) (be32 e.kvno)

-- a record behind its size, and then more
abbrev pub record_bytes : Entry → List ℕ → List ℕ
record_bytes e more = be32 (length (written e)) ++ (written e ++ more)

-- the records, and then more
abbrev pub records_bytes : List Entry → List ℕ → List ℕ
records_bytes [] more = more
records_bytes (e ∷ es) more = record_bytes e (records_bytes es more)

-- The keytab of these entries: the version, and the records. There are no holes, and nothing is behind the last record.
abbrev pub keytab_bytes : List Entry → List ℕ
keytab_bytes es = be16 1282 ++ records_bytes es []

-- the record of this entry has numbers, lengths and a size that their fields hold
pub record IsWritable (e : Entry) : Type 0 where
  pub fits : Fits e
  pub kvno : e.kvno < 2 ^ 32
  pub size : length (written e) < 2 ^ 31

-- each entry of the list can be written
abbrev pub AreWritable : List Entry → Type 0
AreWritable [] = Unit {0}
AreWritable (e ∷ es) = IsWritable e × AreWritable es

-- the count and the lengths of a principal are numbers that their fields hold
pub record FitsName (realm : List ℕ) (components : List (List ℕ)) : Type 0 where
  pub count : length components < 2 ^ 16
  pub size : length realm < 2 ^ 16
  pub texts : TextsFit components

-- memory ran out, which is the fault `memory`, or what doesn't fit is too long, which is the fault `long`
abbrev pub IsRefusal : {E : Type 0} → E → E → Type 0 → E → Type 0
IsRefusal memory long Fitting e = (e ≡ memory) ⊎ ((e ≡ long) × (Fitting → ⊥))

-- memory ran out, or a record is too long
abbrev pub IsWriteRefusal : Type 0 → KeytabWriteFault → Type 0
IsWriteRefusal = IsRefusal Memory TooLong

-- octets were put behind the old ones: those in front of more
abbrev pub Puts : (List ℕ → List ℕ) → List ℕ → List ℕ → Type 0
Puts bytes old new = (more : List ℕ) → new ++ more ≡ old ++ bytes more
