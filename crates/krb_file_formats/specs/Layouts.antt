-- The octets of a keytab (MIT's file keytab format, version 0x0502).
use Rattle.std.specs.Prelude.{◌≡◌, ◌⊎◌, ℕ, ◌-◌, ◌<◌, ◌≤◌, ◌^◌, List, [], ◌∷◌, ◌++◌, length}
use Rattle.byte_streams.specs.Numbers.{be16}
use Rattle.krb_file_formats.specs.Numbers.{be32}
use Rattle.krb_file_formats.specs.Entries.{Entry, Fits, record_body, kvno_of}

-- a hole of these octets; or a key record, by its entry, its kvno of 8 bits, and what is left in it behind the key
pub data Piece : Type 0 where
  Hole : List ℕ → Piece
  Held : Entry → ℕ → List ℕ → Piece

-- The size of a key record is a number of 32 bits before it. That of a hole is negative, in two's complement. Test: `holes and
-- sizes` of `rows.txt`; `stock keytabs`.
abbrev pub pieces_bytes : List Piece → List ℕ → List ℕ
pieces_bytes [] more = more
pieces_bytes (Hole octets ∷ ps) more = be32 (2 ^ 32 - length octets) ++ (octets ++ pieces_bytes ps more)
pieces_bytes (Held e low left ∷ ps) more = be32 (length (record_body e low left)) ++ (record_body e low left ++ pieces_bytes ps more)

-- a record of this entry: it and its size fit, and its kvno is the entry's
pub record FitsRecord (e : Entry) (low : ℕ) (left : List ℕ) : Type 0 where
  pub entry : Fits e
  pub small : low < 2 ^ 8
  pub kvno : kvno_of low left ≡ e.kvno
  pub size : length (record_body e low left) < 2 ^ 31

abbrev pub PiecesFit : List Piece → Type 0
PiecesFit [] = Unit {0}
PiecesFit (Hole octets ∷ ps) = ((0 < length octets) × (length octets ≤ 2 ^ 31)) × PiecesFit ps
PiecesFit (Held e low left ∷ ps) = FitsRecord e low left × PiecesFit ps

-- the entries of the records, in their order
abbrev pub entries_of : List Piece → List Entry
entries_of [] = []
entries_of (Hole octets ∷ ps) = entries_of ps
entries_of (Held e low left ∷ ps) = e ∷ entries_of ps

-- The file ends behind the last piece, or a size of 0 ends it, behind which octets count for nothing. Test: `versions and ends` of
-- `rows.txt`.
abbrev pub IsEnd : List ℕ → Type 0
IsEnd end = (end ≡ []) ⊎ ((rest : List ℕ) × (end ≡ be32 0 ++ rest))

-- A keytab is the version 0x0502 (the octets 5 and 2), and behind it key records and holes in any order.
pub record IsKeytab (es : List Entry) (whole : List ℕ) : Type 0 where
  pub pieces : List Piece
  pub end : List ℕ
  pub bytes : whole ≡ be16 1282 ++ pieces_bytes pieces end
  pub fits : PiecesFit pieces
  pub ends : IsEnd end
  pub entries : entries_of pieces ≡ es
