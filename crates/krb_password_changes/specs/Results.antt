-- What a reply carries: a result code and a text (RFC 3244, section 2).
use Rattle.std.specs.Prelude.{ℕ, List, ◌++◌}
use Rattle.byte_streams.specs.Numbers.{be16}

-- The number of a result code in two octets, the highest first, and a text, which may be empty (RFC 3244, section 2). Test:
-- `result with text`, `result without text` of `password_frames.txt`.
abbrev pub result_octets : ℕ → List ℕ → List ℕ
result_octets number text = be16 number ++ text
