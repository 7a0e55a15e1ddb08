-- The table of a PAC and its buffers (MS-PAC, sections 2.3 and 2.4).
use Rattle.std.specs.Prelude.{◌≡◌, ℕ, ◌+◌, ◌≤◌, ◌<◌, ◌^◌, List, [], ◌∷◌, length, map}
use Rattle.byte_streams.specs.Parts.{Part, part, IsLaidOut}
use Rattle.byte_streams.specs.Numbers.{le32, le64}
use Rattle.microsoft_messages.specs.Kinds.{kind_number}
use Rattle.microsoft_messages.specs.declared.pac.info.PacInfoBuffer.{PacInfoBuffer}
use Rattle.microsoft_messages.specs.declared.pac.buffer.PacBuffer.{PacBuffer}
use Rattle.microsoft_messages.specs.declared.pac.pac.Pac.{Pac}

-- a row of the table, and the content that it speaks of
pub record Buffer : Type 0 where
  pub info : PacInfoBuffer
  pub content : List ℕ

-- the PAC_INFO_BUFFER of a buffer, and its content (MS-PAC, section 2.4)
abbrev pub buffer_of : PacBuffer → Buffer
buffer_of b = record { info = b.info_buffer; content = b.data.items }

-- the buffers of a PAC in their order (MS-PAC, section 2.3)
abbrev pub pac_buffers : Pac → List Buffer
pac_buffers p = map buffer_of p.buffers.items

-- octets 0 to 3 ulType, 4 to 7 cbBufferSize, 8 to 15 Offset
abbrev pub info_parts : ℕ → PacInfoBuffer → List Part
info_parts place info =
    part place (le32 (kind_number info.ul_type)) ∷ part (place + 4) (le32 info.cb_buffer_size) ∷ part (place + 8) (le64 info.offset) ∷ []

-- the row is laid out in sixteen bytes
pub record IsInfo (info : PacInfoBuffer) (whole : List ℕ) : Type 0 where
  pub parts : IsLaidOut (info_parts 0 info) whole
  pub size : length whole ≡ 16

-- each of its numbers is one that its field holds
pub record FitsInfo (info : PacInfoBuffer) : Type 0 where
  pub size : info.cb_buffer_size < 2 ^ 32
  pub offset : info.offset < 2 ^ 64

-- the row at this place, and the content at the row's offset
abbrev pub one_buffer_parts : ℕ → Buffer → List Part
one_buffer_parts place b =
    part place (le32 (kind_number b.info.ul_type)) ∷ part (place + 4) (le32 b.info.cb_buffer_size) ∷ part (place + 8) (le64 b.info.offset)
    ∷ part b.info.offset b.content ∷ []

-- the rows from this place on, and each content at its row's offset
abbrev pub buffer_parts : ℕ → List Buffer → List Part
buffer_parts place [] = []
buffer_parts place (b ∷ bs) =
    part place (le32 (kind_number b.info.ul_type)) ∷ part (place + 4) (le32 b.info.cb_buffer_size) ∷ part (place + 8) (le64 b.info.offset)
    ∷ part b.info.offset b.content ∷ buffer_parts (place + 16) bs

-- octets 0 to 3 cBuffers, 4 to 7 Version, and from 8 on the rows
abbrev pub pac_parts : List Buffer → List Part
pac_parts bs = part 0 (le32 (length bs)) ∷ part 4 (le32 0) ∷ buffer_parts 8 bs

-- the content has the row's size, and ends within n bytes
abbrev pub IsSized : ℕ → Buffer → Type 0
IsSized n b = (b.info.cb_buffer_size ≡ length b.content) × (b.info.offset + b.info.cb_buffer_size ≤ n)

-- each content has its row's size, and ends within n bytes
abbrev pub AreSized : ℕ → List Buffer → Type 0
AreSized n [] = Unit {0}
AreSized n (b ∷ bs) = IsSized n b × AreSized n bs

-- A PAC is cBuffers, Version 0, one PAC_INFO_BUFFER of 16 octets for each buffer, and the contents (MS-PAC, sections 2.3 and 2.4). Test:
-- `structure_example` of `pac.rt`.
-- The content of a buffer has cbBufferSize octets, and begins at its Offset from the PAC's first octet (MS-PAC, section 2.4). Test:
-- `structure_example` of `pac.rt`.
-- Not judged: the signatures and the contents. Test: `read_and_written` of `pac.rt`.
pub record IsPac (bs : List Buffer) (whole : List ℕ) : Type 0 where
  pub parts : IsLaidOut (pac_parts bs) whole
  pub sized : AreSized (length whole) bs

-- each number is one that its field holds
abbrev pub FieldsFit : List Buffer → Type 0
FieldsFit [] = Unit {0}
FieldsFit (b ∷ bs) = ((b.info.cb_buffer_size < 2 ^ 32) × (b.info.offset < 2 ^ 64)) × FieldsFit bs

-- the count of buffers, and each size and Offset, is a number that its field holds (MS-PAC, sections 2.3 and 2.4)
pub record AllFit (bs : List Buffer) : Type 0 where
  pub count : length bs < 2 ^ 32
  pub fields : FieldsFit bs
