-- What a deserializer has left to read, and what a call leaves of it.
use Rattle.std.specs.Prelude.{◌≡◌, ℕ, ◌+◌, ◌<◌, ◌≤◌, Bool, true, false, List, [], ◌∷◌, ◌++◌, length, Option, None, Some, ⊤, ◌⊎◌, Result, Ok, Err}
use Rattle.std.specs.Borrow.{GName}
use Rattle.std.specs.declared.io.ErrorKind.{ErrorKind}
use Rattle.std.specs.Io.KnownBytes.{Consumes, Keeps}
use Rattle.byte_streams.specs.Counting.{one_more}
use Rattle.asn1_der.specs.Tree.{Tree, Trees, IsWhole, AreWhole, der, ders, Writes}
use Rattle.asn1_der.specs.Length.{element, length_octets}
use Rattle.asn1_der.specs.Firsts.{Firsts, may_begin}
use Rattle.asn1_der.specs.declared.error.Asn1DerError.{Asn1DerError}
use Rattle.asn1_der.specs.declared.error.Asn1DerError.TheVariants.{InvalidData, Memory, Other}

-- the bytes that the source still gives, where they are known, and whether the next of them is looked at; how
-- many of them may still be taken; whether a call was refused; how many calls of the source failed, and why the
-- last of them did; the references that it reads through
pub record Reading : Type 0 where
  pub left : Option (List ℕ)
  pub looked : Bool
  pub limit : ℕ
  pub failed : Bool
  pub faults : ℕ
  pub kind : Option ErrorKind
  pub through : List GName

-- a call took these bytes, within the limit, and looked at none behind them
pub record Took (bytes : List ℕ) (old new : Reading) : Type 0 where
  pub left : Consumes old.left new.left bytes
  pub limit : old.limit ≡ length bytes + new.limit
  pub sound_before : old.failed ≡ false
  pub sound_after : new.failed ≡ false
  pub looked : new.looked ≡ false
  pub faults : new.faults ≡ old.faults
  pub same : new.through ≡ old.through

-- calls took these bytes, within the limit, and may look at the next one
pub record Passed (bytes : List ℕ) (old new : Reading) : Type 0 where
  pub left : Consumes old.left new.left bytes
  pub limit : old.limit ≡ length bytes + new.limit
  pub sound_before : old.failed ≡ false
  pub sound_after : new.failed ≡ false
  pub faults : new.faults ≡ old.faults
  pub same : new.through ≡ old.through

-- a call took no bytes, and may look at the next one
pub record TookNone (old new : Reading) : Type 0 where
  pub left : Keeps old.left new.left
  pub limit : new.limit ≡ old.limit
  pub sound_before : old.failed ≡ false
  pub sound_after : new.failed ≡ false
  pub faults : new.faults ≡ old.faults
  pub same : new.through ≡ old.through

-- no such bytes are next within the limit
abbrev pub IsNotNext : (List ℕ → Type 0) → Option (List ℕ) → ℕ → Type 0
IsNotNext P left limit = (bytes rest : List ℕ) → P bytes → left ≡ Some (bytes ++ rest) → length bytes ≤ limit → ⊥

abbrev pub IsMissing : (List ℕ → Type 0) → Reading → Type 0
IsMissing P old = IsNotNext P old.left old.limit

-- memory ran out, or the source failed
abbrev pub IsExcuse : Asn1DerError → Type 0
IsExcuse Memory = ⊤
IsExcuse (Other kind) = ⊤
IsExcuse fault = ⊥

-- the failed calls of the source, of which only a fault of its own adds one
abbrev pub faults_after : Asn1DerError → ℕ → ℕ
faults_after (Other kind) faults = one_more faults
faults_after fault faults = faults

-- a source's fault is of the source's own kind
abbrev pub TellsKind : Asn1DerError → Option ErrorKind → Type 0
TellsKind (Other kind) last = last ≡ Some kind
TellsKind fault last = ⊤

-- no fault of the source
abbrev pub IsOwn : Asn1DerError → Type 0
IsOwn (Other kind) = ⊥
IsOwn fault = ⊤

-- how many calls of the source had failed when it gave this answer: one more than before it where the answer is a fault of the source
abbrev pub result_faults : {T : Type 0} → Result T Asn1DerError → ℕ → ℕ
result_faults (Ok value) faults = faults
result_faults (Err fault) faults = faults_after fault faults

-- a call for such bytes failed: an earlier call had failed, memory ran out, the source had a fault, or no such
-- bytes come next
pub record Refused (P : List ℕ → Type 0) (old new : Reading) (fault : Asn1DerError) : Type 0 where
  pub failed : new.failed ≡ true
  pub faults : new.faults ≡ faults_after fault old.faults
  pub kind : TellsKind fault new.kind
  pub same : new.through ≡ old.through
  pub again : old.failed ≡ true → fault ≡ InvalidData
  pub cause : (old.failed ≡ true) ⊎ (IsExcuse fault ⊎ IsMissing P old)

-- the bytes are read as some value
abbrev pub IsReadBy : {T : Type 0} → (T → List ℕ → Type 0) → List ℕ → Type 0
IsReadBy {T} reads bytes = (value : T) × reads value bytes

-- the bytes are read as some value, and are all up to the limit
abbrev pub IsLastBy : {T : Type 0} → (T → List ℕ → Type 0) → ℕ → List ℕ → Type 0
IsLastBy {T} reads limit bytes = (value : T) × reads value bytes × (length bytes ≡ limit)

-- a call took bytes that are read as this value
abbrev pub TookBy : {T : Type 0} → (T → List ℕ → Type 0) → T → Reading → Reading → Type 0
TookBy reads value old new = (bytes : List ℕ) × reads value bytes × Took bytes old new

-- the bytes are the spelling of some value
abbrev pub IsSpelling : {T : Type 0} → (T → Tree) → List ℕ → Type 0
IsSpelling {T} tree bytes = (value : T) × Writes tree value bytes

-- a call took the spelling of this value
abbrev pub TookValue : {T : Type 0} → (T → Tree) → T → Reading → Reading → Type 0
TookValue tree value old new = IsWhole (tree value) × Took (der (tree value)) old new

-- the fields of a list took all bytes up to the limit
abbrev pub TookFields : {T : Type 0} → (T → Trees) → T → Reading → Reading → Type 0
TookFields trees fields old new =
    AreWhole (trees fields) × Took (ders (trees fields)) old new × (new.limit ≡ 0)

-- the bytes are all up to the limit, and the spellings of some fields
abbrev pub AreFields : {T : Type 0} → (T → Trees) → ℕ → List ℕ → Type 0
AreFields {T} trees limit bytes =
    (fields : T) × AreWhole (trees fields) × (bytes ≡ ders (trees fields)) × (length bytes ≡ limit)

-- the bytes are a list of some fields, under this identifier octet
abbrev pub IsList : {T : Type 0} → ℕ → (T → Trees) → List ℕ → Type 0
IsList {T} first trees bytes = (fields : T) × AreWhole (trees fields) × (bytes ≡ element first (ders (trees fields)))

-- the bytes are the length octets of a length below the limit
abbrev pub IsLength : ℕ → List ℕ → Type 0
IsLength limit bytes = (count : ℕ) × (count < limit) × (bytes ≡ length_octets count)

-- the bytes are one element with this identifier octet
abbrev pub IsElement : ℕ → List ℕ → Type 0
IsElement first bytes = (content : List ℕ) × (bytes ≡ element first content)

-- there is one octet at least
abbrev pub HasOctets : List ℕ → Type 0
HasOctets bytes = 1 ≤ length bytes

-- they are all up to the limit, of which there may be none, or there is one at least
abbrev pub IsFront : ℕ → List ℕ → Type 0
IsFront limit bytes = (length bytes ≡ limit) ⊎ HasOctets bytes

-- there is one octet
abbrev pub IsOctet : List ℕ → Type 0
IsOctet bytes = length bytes ≡ 1

-- there are so many octets
abbrev pub IsCount : ℕ → List ℕ → Type 0
IsCount count bytes = length bytes ≡ count

-- whether the next octet is one of the first octets
pub record Tells (firsts : Firsts) (answer : Bool) (old : Reading) : Type 0 where
  pub some : answer ≡ true → 1 ≤ old.limit
  pub first : (octet : ℕ) (bytes : List ℕ) → old.left ≡ Some (octet ∷ bytes) → 1 ≤ old.limit → may_begin firsts octet ≡ answer

-- the reading with another limit
abbrev pub within : ℕ → Reading → Reading
within limit r = record {
  left = r.left;
  looked = r.looked;
  limit = limit;
  failed = r.failed;
  faults = r.faults;
  kind = r.kind;
  through = r.through;
}

-- the reading after a refusal
abbrev pub stopped : Reading → Reading
stopped r = record {
  left = r.left;
  looked = r.looked;
  limit = r.limit;
  failed = true;
  faults = r.faults;
  kind = r.kind;
  through = r.through;
}

-- the reading of an input from its first byte
abbrev pub whole_input : List ℕ → Reading
whole_input input = record {
  left = Some input;
  looked = false;
  limit = length input;
  failed = false;
  faults = 0;
  kind = None;
  through = [];
}
