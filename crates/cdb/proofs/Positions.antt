-- What reads at places give.
use Rattle.std.proofs.lemmas.Grind.{common_steps}
use Rattle.std.proofs.Common.{◌≡◌, ℕ, ◌+◌, ◌<◌, ◌≤◌, List, ◌++◌, length, length-append, length-take, take, drop, Result, Ok, Err, nat_eq, refl, sym, ap, ◌∙◌, arith, le-ltb, lt-ltb}
use Rattle.std.specs.Cmp.Lexicographic.{pointwise}
use Rattle.byte_streams.specs.Numbers.{le32_at}
use Rattle.cdb.specs.declared.format.TheConstants.{PAIR_SIZE}
use Rattle.std.specs.declared.io.ErrorKind.{ErrorKind}
use Rattle.cdb.specs.declared.fault.Fault.{Fault}
use Rattle.cdb.specs.declared.fault.Fault.TheVariants.{Failed, Damaged, Long}
use Rattle.cdb.specs.Reading.{◌>>=◌, Fails, IsFilled, ReadsAt}
use Rattle.cdb.specs.Find.{pair_at, part_at, stands_at}

-- a fault ends what follows
pub fails_on : {X Y : Type 0} (fails : ErrorKind → Type 0) (fault : Fault) (said : Result X Fault) (next : X → Result Y Fault) → Fails fails fault said → Fails fails fault (said >>= next)
fails_on fails (Failed kind) said next h = h
fails_on fails Damaged said next h = rw h refl
fails_on fails Long said next h = rw h refl

pub part_damaged : (position size : ℕ) (bytes : List ℕ) → length bytes < position + size → part_at position size bytes ≡ Err Damaged
unfolding part_at
part_damaged position size bytes short = rw (lt-ltb (length bytes) (position + size) short) refl

pub part_is : (position size : ℕ) (bytes buffer : List ℕ) → position + size ≤ length bytes → buffer ≡ take size (drop position bytes) → part_at position size bytes ≡ Ok buffer
unfolding part_at
part_is position size bytes buffer within same = rw (le-ltb (length bytes) (position + size) within) (ap (λ (part : List ℕ). Ok part) (sym same))

-- where a read failed, so does `part_at`, or it is damaged
pub part_fails : (fails : ErrorKind → Type 0) (fault : Fault) (position size : ℕ) (bytes buffer : List ℕ) → length buffer ≡ size → ReadsAt fails (Err fault) position bytes buffer → Fails fails fault (part_at position size bytes)
part_fails fails (Failed kind) position size bytes buffer sized read = read
part_fails fails Damaged position size bytes buffer sized read = part_damaged position size bytes (omega (arith, sized, read))
part_fails fails Long position size bytes buffer sized read = absurd read

-- where a read was complete, `part_at` gives the buffer
pub part_read : (position size : ℕ) (bytes buffer : List ℕ) → length buffer ≡ size → IsFilled position bytes buffer → part_at position size bytes ≡ Ok buffer
part_read position size bytes buffer sized read =
    part_is position size bytes buffer (omega (arith, sized, read.0)) (read.1 ∙ ap (λ n. take n (drop position bytes)) sized)

pub pair_fails : (fails : ErrorKind → Type 0) (fault : Fault) (position : ℕ) (bytes buffer : List ℕ) → length buffer ≡ PAIR_SIZE → ReadsAt fails (Err fault) position bytes buffer → Fails fails fault (pair_at position bytes)
unfolding pair_at
pair_fails fails fault position bytes buffer sized read = fails_on fails fault (part_at position PAIR_SIZE bytes) (λ part. Ok (le32_at 0 part, le32_at 4 part)) (part_fails fails fault position PAIR_SIZE bytes buffer sized read)

pub pair_read : (position : ℕ) (bytes buffer : List ℕ) → length buffer ≡ PAIR_SIZE → IsFilled position bytes buffer → pair_at position bytes ≡ Ok (le32_at 0 buffer, le32_at 4 buffer)
unfolding pair_at
pair_read position bytes buffer sized read = rw (part_read position PAIR_SIZE bytes buffer sized read) refl

pub stands_fails : (fails : ErrorKind → Type 0) (fault : Fault) (position : ℕ) (key bytes buffer : List ℕ) → length buffer ≡ length key → ReadsAt fails (Err fault) position bytes buffer → Fails fails fault (stands_at position key bytes)
unfolding stands_at
stands_fails fails fault position key bytes buffer sized read =
    fails_on fails fault (part_at position (length key) bytes) (λ part. Ok (pointwise nat_eq part key)) (part_fails fails fault position (length key) bytes buffer sized read)

pub stands_read : (position : ℕ) (key bytes buffer : List ℕ) → length buffer ≡ length key → IsFilled position bytes buffer → stands_at position key bytes ≡ Ok (pointwise nat_eq buffer key)
unfolding stands_at
stands_read position key bytes buffer sized read = rw (part_read position (length key) bytes buffer sized read) refl

-- the front of a buffer, of which the rest is left as it was
pub front_sized : (size : ℕ) (front whole : List ℕ) → length front ≡ length (take size whole) → size ≤ length whole → length front ≡ size
front_sized size front whole sized fits = omega (arith, sized, length-take size whole, fits)

pub front_fits : (size : ℕ) (front rest : List ℕ) → length front ≡ size → size ≤ length (front ++ rest)
front_fits size front rest sized = omega (arith, sized, length-append front rest)

pub front_taken : (size : ℕ) (front rest : List ℕ) → length front ≡ size → take size (front ++ rest) ≡ front
front_taken size front rest sized = grind (arith, common_steps, sized)
