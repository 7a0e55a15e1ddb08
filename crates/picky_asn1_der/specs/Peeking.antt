-- A source of which some octets are looked at.
use Rattle.std.specs.Prelude.{◌≡◌, ℕ, List, [], ◌∷◌, Option, Some, take, length, ◌+◌, Bool, true, false}
use Rattle.std.specs.Borrow.{GName}
use Rattle.std.specs.declared.io.ErrorKind.{ErrorKind}
use Rattle.std.specs.Io.KnownBytes.{prepend_known}
use Rattle.byte_streams.specs.Counting.{one_more}
use Rattle.asn1_der.specs.declared.error.Asn1DerError.{Asn1DerError}
use Rattle.asn1_der.specs.declared.error.Asn1DerError.TheVariants.{Other}

-- the octets that are looked at, and what the source gives behind them, where that is known; how many octets were taken;
-- how many calls of the source failed, and why the last of them did; the references that it reads through
pub record Peeking : Type 0 where
  pub seen : List ℕ
  pub further : Option (List ℕ)
  pub pos : ℕ
  pub faults : ℕ
  pub kind : Option ErrorKind
  pub through : List GName

abbrev pub seen_before : List ℕ → Option (List ℕ) → Option (List ℕ)
seen_before [] further = further
seen_before (octet ∷ seen) further = prepend_known (octet ∷ seen) further

-- what is left: the octets that are looked at, and what the source gives
abbrev pub left_of : Peeking → Option (List ℕ)
left_of p = seen_before p.seen p.further

-- a call looked at these octets, which are so many, fewer at the end alone, and took none
pub record Looked (count : ℕ) (octets : List ℕ) (old new : Peeking) : Type 0 where
  pub front : (input : List ℕ) → left_of old ≡ Some input → (left_of new ≡ Some input) × (octets ≡ take count input)
  pub pos : new.pos ≡ old.pos
  pub faults : new.faults ≡ old.faults
  pub same : new.through ≡ old.through

-- a call looked at one octet more, or was at the end
pub record LookedOn (more : Bool) (old new : Peeking) : Type 0 where
  pub kept : (input : List ℕ) → left_of old ≡ Some input → left_of new ≡ Some input
  pub some : more ≡ true → length new.seen ≡ 1 + length old.seen
  pub ended : more ≡ false → (input : List ℕ) → left_of new ≡ Some input → input ≡ new.seen
  pub pos : new.pos ≡ old.pos
  pub faults : new.faults ≡ old.faults
  pub same : new.through ≡ old.through

-- a call failed by the source's fault, and took nothing
pub record NotLooked (old new : Peeking) (fault : Asn1DerError) : Type 0 where
  pub kept : (input : List ℕ) → left_of old ≡ Some input → left_of new ≡ Some input
  pub pos : new.pos ≡ old.pos
  pub faults : new.faults ≡ one_more old.faults
  pub kind : (kind : ErrorKind) × (fault ≡ Other kind) × (new.kind ≡ Some kind)
  pub same : new.through ≡ old.through
