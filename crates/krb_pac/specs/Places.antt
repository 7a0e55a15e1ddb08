-- Where a value begins (C706, section 14.2.2).
use Rattle.std.specs.Prelude.{◌≡◌, ℕ, ◌+◌, ◌-◌, ◌%◌, ◌≤◌, nat_lt, List, length, Result, Ok, Err, if◌then◌else◌, refl}
use Rattle.byte_streams.specs.Parts.{part, Stands}
use Rattle.krb_pac.specs.declared.error.PacFault.{PacFault}
use Rattle.krb_pac.specs.declared.error.PacFault.TheVariants.{Short}

-- How many octets there are from a place to the next multiple of a size.
unfoldable pub gap : ℕ → ℕ → ℕ
gap size place = (size - place % size) % size

-- The first multiple of a size from a place on.
abbrev pub aligned : ℕ → ℕ → ℕ
aligned size place = place + gap size place

-- Where a value of this size begins: at the first multiple of its size. It has to end within the octets.
unfoldable pub start_at : ℕ → ℕ → List ℕ → Result ℕ PacFault
start_at size place whole = if nat_lt (length whole - place) (gap size place + size) then Err Short else Ok (aligned size place)

-- These octets stand where a value of this size begins, and end at a place within the whole. The octets of the gap before them have any
-- value.
pub record IsLaid (size : ℕ) (octets : List ℕ) (place end : ℕ) (whole : List ℕ) : Type 0 where
  pub stands : Stands (part (aligned size place) octets) whole
  pub ends : end ≡ aligned size place + size
  pub inside : end ≤ length whole

five : aligned 4 5 ≡ 8
unfolding gap
five = refl

eight : aligned 8 8 ≡ 8
unfolding gap
eight = refl
