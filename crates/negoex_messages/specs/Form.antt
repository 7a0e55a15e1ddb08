-- The form of all types: a header of fixed size, and a payload elsewhere in the message (MS-NEGOEX, section 2.2.5).
use Rattle.std.specs.Prelude.{◌≡◌, ℕ, ◌+◌, ◌≤◌, ◌<◌, ◌^◌, ◌⊎◌, List, take, drop, Result, Ok, Err, MatchResult, ◌++◌}
use Rattle.std.specs.declared.io.ErrorKind.{ErrorKind}
use Rattle.std.specs.declared.io.ErrorKind.TheVariants.{OutOfMemory, InvalidInput}
use Rattle.negoex_messages.specs.declared.error.NegoexError.{NegoexError}

-- so many bytes from a place on; fewer where the bytes end before
abbrev pub cut : ℕ → ℕ → List ℕ → List ℕ
cut place size whole = take size (drop place whole)

-- a value, or why there is none
abbrev pub Answer : Type 0 → Type 0
Answer V = Result V ErrorKind

-- what is read next, or why there was nothing
abbrev pub then_read : {A B : Type 0} → Answer A → (A → Answer B) → Answer B
then_read (Ok a) next = next a
then_read (Err e) next = Err e

-- how values of a type are in a message: a header of so many bytes, and a payload where the header says
pub record Layout (V : Type 0) : Type 1 where
  -- the size of the header
  pub width : ℕ
  -- the value is in this header and this message
  pub IsLaid : V → List ℕ → List ℕ → Type 0
  -- its numbers fit their fields
  pub Fits : V → Type 0
  -- the value that is there, or the fault that comes first
  pub read : List ℕ → List ℕ → Answer V
  -- the size of the payload
  pub payload : V → ℕ
  -- the header, and the payload, where the payload begins at this offset
  pub head : V → ℕ → List ℕ
  pub body : V → ℕ → List ℕ

-- the call returns what was read, or memory ran out
abbrev pub Answers : {T V : Type 0} → (T → V) → Answer V → Result T NegoexError → Type 0
Answers view told result = MatchResult result (λ t. told ≡ Ok (view t)) (λ e. (e.kind ≡ OutOfMemory) ⊎ (told ≡ Err e.kind))

-- the same, of what takes no memory
abbrev pub AnswersExactly : {V : Type 0} → Answer V → Result V NegoexError → Type 0
AnswersExactly told result = MatchResult result (λ v. told ≡ Ok v) (λ e. told ≡ Err e.kind)

-- the places of a payload of n bytes that begins at o are numbers of 32 bits
abbrev pub IsWithin : ℕ → ℕ → Type 0
IsWithin o n = 0 < n → o + n < 2 ^ 32

-- a header and a payload were appended to what was there
pub record IsPut {V : Type 0} (l : Layout V) (v : V) (o : ℕ) (old new data_old data_new : List ℕ) : Type 0 where
  pub header : new ≡ old ++ l.head v o
  pub payload : data_new ≡ data_old ++ l.body v o
  pub within : IsWithin o (l.payload v)

-- Nothing is written if memory ran out, or if the payload ends past 32 bits (InvalidInput) (MS-NEGOEX, section 2.2.6.2). No test: such a
-- payload has 4 GiB.
-- Not judged: cbHeaderLength and cbMessageLength, which aren't compared with the bytes. Test: `checksums`, `offsets_at_the_end` of
-- `negoex.rt`.
abbrev pub IsTooLong : ℕ → ℕ → NegoexError → Type 0
IsTooLong o n e = (e.kind ≡ OutOfMemory) ⊎ ((e.kind ≡ InvalidInput) × (2 ^ 32 ≤ o + n))
