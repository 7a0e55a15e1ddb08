-- The record of an integrity level is laid out in the bytes that it was read from, and in those that are written.
use Rattle.std.proofs.Common.{◌≡◌, ℕ, ◌<◌, List, ◌++◌, length, take, drop, Option, None, Some, IfSome, ap, sym, subst, ◌∙◌, append-nil, arith}
use Rattle.std.proofs.lemmas.List.{length-drop, length-take, length-take-le, take_at}
use Rattle.std.specs.Io.KnownBytes.{Consumes, IsAtEnd}
use Rattle.byte_streams.specs.Parts.{part, Stands, IsLaidOut, AreInside, put, put_all}
use Rattle.byte_streams.specs.Numbers.{le32, le32_at}
use Rattle.byte_streams.proofs.PartLaws.{put_all-laid, order-apart, length-put_all}
use Rattle.byte_streams.proofs.NumberLaws.{length-le32, le32-again}
use Rattle.gss_contexts.specs.declared.message_tokens.integrity.LsapTokenInfoIntegrity.{LsapTokenInfoIntegrity}
use Rattle.gss_contexts.specs.Integrity.{record_parts, IsIntegrityRecord, FitsRecord, record_at}

-- the record as it is written
pub record-written : (r : LsapTokenInfoIntegrity) (zeros h1 h2 h3 f t : List ℕ) → length zeros ≡ 40 → length r.machine_id ≡ 32
    → f ≡ le32 r.flags → t ≡ le32 r.token_il
    → h1 ≡ put (part 0 f) zeros → h2 ≡ put (part 4 t) h1 → h3 ≡ put (part 8 r.machine_id) h2 → IsIntegrityRecord r h3
record-written r zeros h1 h2 h3 f t size id_size is_f is_t p1 p2 p3 =
    let f_size = length-le32 r.flags in
    let t_size = length-le32 r.token_il in
    let e1 : h1 ≡ put (part 0 (le32 r.flags)) zeros = p1 ∙ ap (λ (b : List ℕ). put (part 0 b) zeros) is_f in
    let e2 : h2 ≡ put (part 4 (le32 r.token_il)) h1 = p2 ∙ ap (λ (b : List ℕ). put (part 4 b) h1) is_t in
    let whole : h3 ≡ put_all (record_parts r) zeros = p3 ∙ ap (put (part 8 r.machine_id)) (e2 ∙ ap (put (part 4 (le32 r.token_il))) e1) in
    let inside : AreInside (length zeros) (record_parts r) = (omega arith, (omega arith, (omega arith, tt))) in
    record {
      parts = subst (IsLaidOut (record_parts r)) (sym whole)
          (put_all-laid (record_parts r) zeros inside (order-apart 0 (record_parts r) (omega arith, (omega arith, (omega arith, tt)))));
      size = ap length whole ∙ length-put_all (record_parts r) zeros inside ∙ size;
    }

-- the record that 40 bytes are
pub record-read : (bytes id : List ℕ) (f t : ℕ) → length bytes ≡ 40 → Stands (part 0 (le32 f)) bytes → Stands (part 4 (le32 t)) bytes
    → id ≡ take 32 (drop 8 bytes) → IsIntegrityRecord (record { flags = f; token_il = t; machine_id = id }) bytes
record-read bytes id f t size f_stands t_stands is_id =
    let id_size : length id ≡ 32 = ap length is_id ∙ length-take-le 32 (drop 8 bytes) (omega (arith, length-drop 8 bytes)) in
    let id_stands : take (length id) (drop 8 bytes) ≡ id = ap (λ (n : ℕ). take n (drop 8 bytes)) id_size ∙ sym is_id in
    record { parts = (f_stands, (t_stands, (id_stands, tt))); size = size }

-- too few bytes were left
pub short-record : (left after : Option (List ℕ)) (count : ℕ) (buffer : List ℕ)
    → Consumes left after (take count buffer) → IsAtEnd after → count < 40 → IfSome left (λ bytes. length bytes < 40)
short-record None after count buffer given ends few = tt
short-record (Some bytes) None count buffer given ends few = absurd given
short-record (Some bytes) (Some rest) count buffer given ends few =
    let whole : bytes ≡ take count buffer = given ∙ ap (λ (l : List ℕ). take count buffer ++ l) ends ∙ append-nil (take count buffer) in
    omega (arith, ap length whole, length-take count buffer)

-- a record that is laid out in 40 bytes is what is read from them
record-only : (r : LsapTokenInfoIntegrity) (whole : List ℕ) → FitsRecord r → IsIntegrityRecord r whole → record_at whole ≡ r
record-only r whole fits is =
    let flags : le32_at 0 whole ≡ r.flags = le32-again 0 r.flags whole fits.flags is.parts.0 in
    let token_il : le32_at 4 whole ≡ r.token_il = le32-again 4 r.token_il whole fits.token_il is.parts.1.0 in
    let machine_id : take 32 (drop 8 whole) ≡ r.machine_id = ap (λ (n : ℕ). take n (drop 8 whole)) (sym fits.machine_id) ∙ is.parts.1.1.0 in
    λ i. record { flags = flags i; token_il = token_il i; machine_id = machine_id i }

pub given-only : (left after : Option (List ℕ)) (whole : List ℕ) (read : LsapTokenInfoIntegrity)
    → Consumes left after whole → length whole ≡ 40 → read ≡ record_at whole
    → IfSome left (λ bytes. (r : LsapTokenInfoIntegrity) → FitsRecord r → IsIntegrityRecord r (take 40 bytes) → read ≡ r)
given-only None after whole read given size is_read = tt
given-only (Some bytes) None whole read given size is_read = absurd given
given-only (Some bytes) (Some rest) whole read given size is_read =
    λ r fits is.
    let same : take 40 bytes ≡ whole = ap (take 40) given ∙ take_at whole rest 40 size in
    is_read ∙ record-only r whole fits (subst (IsIntegrityRecord r) same is)

-- no record is laid out in fewer bytes
pub short-only : (left after : Option (List ℕ)) (count : ℕ) (buffer : List ℕ) (P : LsapTokenInfoIntegrity → Type 0)
    → Consumes left after (take count buffer) → IsAtEnd after → count < 40
    → IfSome left (λ bytes. (r : LsapTokenInfoIntegrity) → FitsRecord r → IsIntegrityRecord r (take 40 bytes) → P r)
short-only None after count buffer P given ends few = tt
short-only (Some bytes) None count buffer P given ends few = absurd given
short-only (Some bytes) (Some rest) count buffer P given ends few =
    λ r fits is.
    let whole : bytes ≡ take count buffer = given ∙ ap (λ (l : List ℕ). take count buffer ++ l) ends ∙ append-nil (take count buffer) in
    let size = is.size in
    absurd (omega (arith, ap length whole, length-take count buffer, length-take 40 bytes))

-- the device failed, whatever is laid out
pub failed-only : (left : Option (List ℕ)) (P : Type 0) → P
    → IfSome left (λ bytes. (r : LsapTokenInfoIntegrity) → FitsRecord r → IsIntegrityRecord r (take 40 bytes) → P)
failed-only None P why = tt
failed-only (Some bytes) P why = λ r fits is. why
