-- Frames of the sample protocol.
use Rattle.std.specs.Prelude.{◌≡◌, ◌≢◌, ◌⊎◌, ℕ, ◌+◌, ◌<◌, List, [], ◌∷◌, ◌++◌, length, take, drop, Option, Some, None, Result, Ok, Err, ⊤, Vec, refl}
use Rattle.std.specs.Global.{Global}
use Rattle.std.specs.Int.{w32, from_be_bytes, to_be_bytes}
use Rattle.example_acceptor.specs.declared.frame.Frame.{Frame}
use Rattle.example_acceptor.specs.declared.frame.FrameFault.{FrameFault}
use Rattle.example_acceptor.specs.declared.frame.FrameFault.TheVariants.{Truncated, TokenTooLong}

-- the octets of a frame: its flags, its token's length in four octets, the highest first, and its token
abbrev pub framed : ℕ → List ℕ → List ℕ
framed flags token = flags ∷ (to_be_bytes w32 (length token) ++ token)

-- the length that a stream's first frame announces
abbrev pub announced : List ℕ → ℕ
announced stream = from_be_bytes w32 (take 4 (drop 1 stream))

-- what reading a token of this size gives
abbrev pub IsToken : List ℕ → Option (List ℕ) → ℕ → Result (Vec ℕ Global) FrameFault → Type 0
IsToken stream left size (Ok token) = (rest : List ℕ) × (left ≡ Some rest) × (stream ≡ token.items ++ rest)
IsToken stream left size (Err Truncated) = length stream < size
IsToken stream left size (Err TokenTooLong) = ⊥
IsToken stream left size (Err _) = ⊤

-- what reading a frame gives, of this stream, and what is left of the stream
abbrev pub IsRead : List ℕ → Option (List ℕ) → Result (Option Frame) FrameFault → Type 0
IsRead stream left (Ok None) = stream ≡ []
IsRead stream left (Ok (Some frame)) = (rest : List ℕ) × (left ≡ Some rest) × (stream ≡ framed frame.flags frame.token.items ++ rest)
IsRead stream left (Err Truncated) = (stream ≢ []) × ((length stream < 5) ⊎ (length stream < 5 + announced stream))
IsRead stream left (Err TokenTooLong) = 65536 < announced stream
IsRead stream left (Err _) = ⊤

-- a MIC of two octets that is asked for and sent
framed-example : framed 8 (7 ∷ 9 ∷ []) ≡ 8 ∷ 0 ∷ 0 ∷ 0 ∷ 2 ∷ 7 ∷ 9 ∷ []
framed-example = refl
