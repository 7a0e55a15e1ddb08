-- How a PAC is written.
use Rattle.std.specs.Prelude.{◌≡◌, ℕ, ◌+◌, ◌-◌, ◌*◌, ◌/◌, ◌≤◌, ◌&&◌, Bool, List, [], ◌∷◌, length, map, replicate, Option, Result, Ok, Err, nat_eq, nat_le, nat_lt, if◌then◌else◌, ◌⊎◌}
use Rattle.std.specs.List.{list_all}
use Rattle.std.specs.declared.io.ErrorKind.{ErrorKind}
use Rattle.std.specs.declared.io.ErrorKind.TheVariants.{WriteZero}
use Rattle.byte_streams.specs.Parts.{Part, part, put_all, AreAllApart}
use Rattle.microsoft_messages.specs.Buffers.{Buffer, one_buffer_parts, pac_parts}
use Rattle.microsoft_messages.specs.Faults.{IsWriteFault}
use Rattle.microsoft_messages.specs.PacReading.{and_then}
use Rattle.microsoft_messages.specs.declared.pac.error.PacError.{PacError}
use Rattle.microsoft_messages.specs.declared.pac.error.PacError.TheVariants.{IoError, InvalidRange, Memory}

-- a row, and its size rounded up to 8
abbrev pub room_of : Buffer → ℕ
room_of b = 16 + (b.info.cb_buffer_size + 7) / 8 * 8

abbrev pub rooms_of : List Buffer → ℕ
rooms_of [] = 0
rooms_of (b ∷ bs) = room_of b + rooms_of bs

-- A PAC is written with each content at the caller's Offset, in room for sizes that are rounded up to 8 (MS-PAC, sections 2.3 and 2.4).
-- Test: `structure_example` of `pac.rt`.
abbrev pub pac_size : List Buffer → ℕ
pac_size bs = 8 + rooms_of bs

-- the content has the row's size, and ends within n bytes
abbrev pub is_sized : ℕ → Buffer → Bool
is_sized n b = nat_eq b.info.cb_buffer_size (length b.content) && nat_le (b.info.offset + b.info.cb_buffer_size) n

-- how many buffers there are, where their count fits its field and each is of its size and within n bytes
abbrev pub counted : ℕ → List Buffer → Result ℕ PacError
counted n bs = if nat_lt 4294967295 (length bs) then Err InvalidRange else if list_all (is_sized n) bs then Ok (length bs) else Err InvalidRange

-- the parts put to their places, in their order, into zeros
abbrev pub pac_bytes : List Buffer → List ℕ
pac_bytes bs = put_all (pac_parts bs) (replicate (pac_size bs) 0)

-- the bytes of a PAC with these buffers, or that there are none
abbrev pub pac_written : List Buffer → Result (List ℕ) PacError
pac_written bs = and_then (counted (pac_size bs) bs) (λ _. Ok (pac_bytes bs))

-- each content begins at n or after it
abbrev pub AreBehind : ℕ → List Buffer → Type 0
AreBehind n [] = Unit {0}
AreBehind n (b ∷ bs) = (n ≤ b.info.offset) × AreBehind n bs

abbrev pub content_part : Buffer → Part
content_part b = part b.info.offset b.content

-- the contents follow the table, and don't overlap
pub record ArePlaced (bs : List Buffer) : Type 0 where
  pub behind : AreBehind (8 + 16 * length bs) bs
  pub apart : AreAllApart (map content_part bs)

-- memory ran out, or no bytes are this PAC
abbrev pub IsUnwritten : List Buffer → PacError → Type 0
IsUnwritten bs fault = (fault ≡ Memory) ⊎ (pac_written bs ≡ Err fault)

-- nothing was written and no write failed, since there are no bytes to write; or a write stopped
abbrev pub IsWriteRefusal : List Buffer → Option (List ℕ) → Option (List ℕ) → ℕ → ℕ → Option ErrorKind → PacError → Type 0
IsWriteRefusal bs before after old new last fault =
    (IsUnwritten bs fault × (after ≡ before) × (new ≡ old)) ⊎ IsWriteFault old new last fault

-- the bytes with one buffer put into them, its row at this place; or that the row ends past them, or the content does or isn't of its size
abbrev pub buffer_put : ℕ → Buffer → List ℕ → Result (List ℕ) PacError
buffer_put place b whole =
    if nat_lt (length whole - place) 16 then Err (IoError WriteZero)
    else if is_sized (length whole) b then Ok (put_all (one_buffer_parts place b) whole) else Err InvalidRange
