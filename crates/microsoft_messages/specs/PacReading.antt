-- The buffers in a PAC's bytes, or the first fault, in the order of the bytes. `stop` says why the bytes end.
use Rattle.std.specs.Prelude.{◌≡◌, ℕ, zero, suc, ◌+◌, ◌-◌, List, [], ◌∷◌, length, take, drop, Option, Result, Ok, Err, nat_lt, nat_eq, if◌then◌else◌, MatchResult, ◌⊎◌}
use Rattle.std.specs.declared.io.ErrorKind.{ErrorKind}
use Rattle.byte_streams.specs.Numbers.{le32_at, le64_at}
use Rattle.microsoft_messages.specs.Buffers.{Buffer}
use Rattle.microsoft_messages.specs.Faults.{short_of, range_of}
use Rattle.microsoft_messages.specs.Kinds.{kind_judged}
use Rattle.microsoft_messages.specs.declared.pac.kind.PacBufferType.{PacBufferType}
use Rattle.microsoft_messages.specs.declared.pac.info.PacInfoBuffer.{PacInfoBuffer}
use Rattle.microsoft_messages.specs.declared.pac.error.PacError.{PacError}
use Rattle.microsoft_messages.specs.declared.pac.error.PacError.TheVariants.{InvalidVersion, Memory}

-- what the first gives, handed to the next
abbrev pub and_then : {A B : Type 0} → Result A PacError → (A → Result B PacError) → Result B PacError
and_then (Ok a) next = next a
and_then (Err e) next = Err e

-- the call returns this value or fault, or memory ran out
abbrev pub Gives : {A B : Type 0} → (A → B) → Result A PacError → Result B PacError → Type 0
Gives view result told = MatchResult result (λ a. told ≡ Ok (view a)) (λ e. (e ≡ Memory) ⊎ (told ≡ Err e))

-- the count of buffers
abbrev pub head_at : Option ErrorKind → List ℕ → Result ℕ PacError
head_at stop whole =
    if nat_lt (length whole) 8 then Err (short_of stop)
    -- Version is 0 (MS-PAC, section 2.3). Test: `refusals` of `pac.rt`.
    else if nat_eq (le32_at 4 whole) 0 then Ok (le32_at 0 whole) else Err (InvalidVersion (le32_at 4 whole))

-- The ulType of a PAC_INFO_BUFFER is 1, 2, 6, 7 or one of 10 to 19 (MS-PAC, section 2.4). Test: `refusals` of `pac.rt`.
abbrev pub kind_at : Option ErrorKind → ℕ → List ℕ → Result PacBufferType PacError
kind_at stop place whole = if nat_lt (length whole - place) 4 then Err (short_of stop) else kind_judged (le32_at place whole)

-- the row of this ulType at this place
abbrev pub fields_at : Option ErrorKind → PacBufferType → ℕ → List ℕ → Result PacInfoBuffer PacError
fields_at stop kind place whole =
    if nat_lt (length whole - place) 16 then Err (short_of stop)
    else Ok (record { ul_type = kind; cb_buffer_size = le32_at (place + 4) whole; offset = le64_at (place + 8) whole })

-- The ulType is judged before the rest of its PAC_INFO_BUFFER is read (MS-PAC, section 2.4). Test: `refusals` of `pac.rt`.
abbrev pub info_at : Option ErrorKind → ℕ → List ℕ → Result PacInfoBuffer PacError
info_at stop place whole = and_then (kind_at stop place whole) (λ kind. fields_at stop kind place whole)

-- the content at the Offset of a PAC_INFO_BUFFER
-- Not judged: that an Offset is a multiple of 8 (MS-PAC, section 2.4). Test: `ranges` of `pac.rt`.
abbrev pub content_at : Option ErrorKind → PacInfoBuffer → List ℕ → Result Buffer PacError
content_at stop info whole =
    -- A content ends within the bytes (MS-PAC, section 2.4). Test: `refusals` of `pac.rt`.
    if nat_lt (length whole) (info.offset + info.cb_buffer_size) then Err (range_of stop)
    else Ok (record { info = info; content = take info.cb_buffer_size (drop info.offset whole) })

-- the buffer of the PAC_INFO_BUFFER at this place, with the content at its Offset (MS-PAC, section 2.4)
abbrev pub buffer_at : Option ErrorKind → ℕ → List ℕ → Result Buffer PacError
buffer_at stop place whole = and_then (info_at stop place whole) (λ info. content_at stop info whole)

-- so many buffers, whose rows begin at this place
abbrev pub buffers_at : Option ErrorKind → ℕ → ℕ → List ℕ → Result (List Buffer) PacError
buffers_at stop zero place whole = Ok []
buffers_at stop (suc n) place whole =
    and_then (buffer_at stop place whole) (λ b. and_then (buffers_at stop n (place + 16) whole) (λ bs. Ok (b ∷ bs)))

-- the buffers of the PAC in these bytes, or its first fault (MS-PAC, sections 2.3 and 2.4)
abbrev pub pac_at : Option ErrorKind → List ℕ → Result (List Buffer) PacError
pac_at stop whole = and_then (head_at stop whole) (λ count. buffers_at stop count 8 whole)
