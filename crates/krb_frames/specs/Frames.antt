-- Frames: a message after its length in four bytes, the highest first (RFC 4120, section 7.2.2).
use Rattle.std.specs.Prelude.{◌≡◌, ℕ, ◌+◌, List, [], ◌∷◌, ◌++◌, length, take, drop, nat_lt, if◌then◌else◌, refl}
use Rattle.byteorder.specs.Endian.{big_bytes, big_number}
use Rattle.krb_frames.specs.declared.fault.ServeFault.{ServeFault}
use Rattle.krb_frames.specs.declared.fault.ServeFault.TheVariants.{Truncated, FrameTooLong}

-- A message has so many bytes at most.
abbrev pub frame_limit : ℕ
frame_limit = 65536

-- Each message takes so many random bytes.
abbrev pub words_needed : ℕ
words_needed = 128

-- the length that the first four bytes of a stream announce
abbrev pub announced : List ℕ → ℕ
announced stream = big_number 4 stream

-- the most bytes that reading the first frame consumes: its length, and its message where that isn't too long
abbrev pub frame_room : List ℕ → ℕ
frame_room stream = if nat_lt frame_limit (announced stream) then 4 else 4 + announced stream

-- a reply in its frame
abbrev pub framed : List ℕ → List ℕ
framed reply =
    -- As over TCP, a message follows its length in four octets, the highest first (RFC 4120, section 7.2.2). Test: `serve` of `realms.txt`.
    big_bytes 4 (length reply) ++ reply

-- what is at the front of a stream: nothing, no frame, or a whole message, and the rest that follows it
pub data Front : Type 0 where
  Ended : Front
  Bad : ServeFault → Front
  Whole : (message rest : List ℕ) → Front

-- the front of these bytes
abbrev pub front_of : List ℕ → Front
front_of stream =
    if nat_lt 0 (length stream) then
    -- The stream doesn't end inside a length (RFC 4120, section 7.2.2). Test: `serve` of `realms.txt`.
    (if nat_lt (length stream) 4 then Bad Truncated
    -- A length is 65,536 at most: a limit of this stack, below the high bit that RFC 4120, section 7.2.2, reserves. Test: `serve` of
    -- `realms.txt`.
    else if nat_lt frame_limit (announced stream) then Bad FrameTooLong
    -- The stream doesn't end inside a message (RFC 4120, section 7.2.2). Test: `stops_at_the_first_fault`.
    else if nat_lt (length (drop 4 stream)) (announced stream) then Bad Truncated
    else Whole (take (announced stream) (drop 4 stream)) (drop (announced stream) (drop 4 stream)))
    else Ended

-- worked: two bytes in their frame, and a frame with a byte after it
framed-example : framed (7 ∷ 8 ∷ []) ≡ 0 ∷ 0 ∷ 0 ∷ 2 ∷ 7 ∷ 8 ∷ []
framed-example = refl

front_of-example : front_of (0 ∷ 0 ∷ 0 ∷ 2 ∷ 7 ∷ 8 ∷ 9 ∷ []) ≡ Whole (7 ∷ 8 ∷ []) (9 ∷ [])
front_of-example = refl

-- worked: three bytes are no length, and 65,537 is too long
truncated-example : front_of (0 ∷ 0 ∷ 0 ∷ []) ≡ Bad Truncated
truncated-example = refl

long-example : front_of (0 ∷ 1 ∷ 0 ∷ 1 ∷ []) ≡ Bad FrameTooLong
long-example = refl
