-- The frame of an exchange that changes a password (RFC 3244, section 2).
use Rattle.std.specs.Prelude.{◌≡◌, ℕ, ◌+◌, List, [], ◌∷◌, ◌++◌, length}
use Rattle.byte_streams.specs.Parts.{Part, part, Stands, IsLaidOut}
use Rattle.byte_streams.specs.Numbers.{be16}
use Rattle.krb_constants.specs.declared.krb_priv.TheConstants.{PROTOCOL_VERSION}

-- the header has six octets, and the version 1 in octets 2 and 3
-- Not judged: the two lengths of the header. Test: `read` of `priv_frames.rt`.
abbrev pub IsHeader : List ℕ → Type 0
IsHeader header = (length header ≡ 6) × Stands (part 2 (be16 PROTOCOL_VERSION)) header

-- octets 2 and 3 the version, from 6 on the AP message, followed by the KRB-PRIV
abbrev pub frame_parts : List ℕ → List ℕ → List Part
frame_parts ap private = part 2 (be16 PROTOCOL_VERSION) ∷ part 6 ap ∷ part (6 + length ap) private ∷ []

-- the parts are laid out in the bytes, and nothing follows them
pub record IsFramed (ap private whole : List ℕ) : Type 0 where
  pub parts : IsLaidOut (frame_parts ap private) whole
  pub size : length whole ≡ 6 + length ap + length private

-- octets 0 and 1 the length of the whole, 4 and 5 that of the AP message
abbrev pub length_parts : List ℕ → List ℕ → List Part
length_parts ap private = part 0 (be16 (6 + length ap + length private)) ∷ part 4 (be16 (length ap)) ∷ []

-- A frame is the whole length, the version 1, the AP message's length, the AP message and the KRB-PRIV (RFC 3244, section 2). The version
-- is that of replies and of requests before RFC 3244, whose own requests have 0xFF80. Test: `lengths` of `priv_frames.rt`.
pub record IsFrame (ap private whole : List ℕ) : Type 0 where
  pub framed : IsFramed ap private whole
  pub lengths : IsLaidOut (length_parts ap private) whole

-- a header with these lengths, and the parts
abbrev pub framed : ℕ → ℕ → List ℕ → List ℕ → List ℕ
framed count size ap private = be16 count ++ (be16 PROTOCOL_VERSION ++ (be16 size ++ (ap ++ private)))

-- The octets of a frame with its true lengths (RFC 3244, section 2).
abbrev pub frame_bytes : List ℕ → List ℕ → List ℕ
frame_bytes ap private = framed (6 + length ap + length private) (length ap) ap private
