-- An I/O error in what bytes hold says why they ended, and that they did.
use Rattle.std.proofs.Common.{◌≡◌, ℕ, zero, suc, ◌+◌, ◌-◌, ◌<◌, ◌≤◌, Bool, true, false, List, [], ◌++◌, length, take, drop, Option, None, Some, IfSome, Result, Ok, Err, ok_or, ◌⊎◌, inl, inr, nat_lt, nat_eq, if◌then◌else◌, unwrap_or, refl, ap, sym, subst, ◌∙◌, arith}
use Rattle.std.specs.Prelude.{IfErr}
use Rattle.std.specs.Bool.{⊤}
use Rattle.std.proofs.lemmas.Bool.{cases_lt}
use Rattle.std.proofs.lemmas.Bool.Decides.{nat_tests}
use Rattle.std.proofs.lemmas.List.{length-take}
use Rattle.std.specs.Io.KnownBytes.{IsAtEnd}
use Rattle.std.specs.declared.io.ErrorKind.{ErrorKind}
use Rattle.std.specs.declared.io.ErrorKind.TheVariants.{UnexpectedEof}
use Rattle.byte_streams.specs.Stops.{IsStop, FailedAtMostOnce, IsReadStop}
use Rattle.byte_streams.proofs.StopLaws.{stopped-once}
use Rattle.byte_streams.specs.Numbers.{le32_at}
use Rattle.microsoft_messages.specs.declared.pac.kind.PacBufferType.{PacBufferType}
use Rattle.microsoft_messages.specs.declared.pac.info.PacInfoBuffer.{PacInfoBuffer}
use Rattle.microsoft_messages.specs.declared.pac.error.PacError.{PacError}
use Rattle.microsoft_messages.specs.declared.pac.error.PacError.TheVariants as fault
use Rattle.microsoft_messages.specs.Buffers.{Buffer}
use Rattle.microsoft_messages.specs.Faults.{short_of, range_of}
use Rattle.microsoft_messages.specs.Kinds.{kind_of}
use Rattle.microsoft_messages.specs.PacReading.{and_then, head_at, kind_at, fields_at, info_at, buffer_at, buffers_at, pac_at}
use Rattle.microsoft_messages.specs.Refusals.{TellsRead, TellsPac}
use Rattle.microsoft_messages.proofs.PacReadingLaws.{Extends, info-extends, pac-extends}

module _ (short : Type 0) (stop : Option ErrorKind) where
  -- an I/O error is why the bytes ended, and they were too short
  abbrev pub IsEnd : PacError → Type 0
  IsEnd (fault.IoError cause) = (cause ≡ unwrap_or stop UnexpectedEof) × short
  IsEnd e = ⊤

  ends-then : {A B : Type 0} (r : Result A PacError) (next : A → Result B PacError) → IfErr r IsEnd → ((a : A) → IfErr (next a) IsEnd) → IfErr (and_then r next) IsEnd
  ends-then (Ok a) next first second = second a
  ends-then (Err e) next first second = first

  ends-test : {A : Type 0} (b : Bool) (r : Result A PacError) (e : PacError) → IfErr r IsEnd → IsEnd e → IfErr (if b then r else Err e) IsEnd
  ends-test true r e is other = is
  ends-test false r e is other = other

  ends-kind : {A : Type 0} (found : Option A) (e : PacError) → IsEnd e → IfErr (ok_or found e) IsEnd
  ends-kind None e is = is
  ends-kind (Some a) e is = tt

-- fewer than m bytes are there, or more is read
ends-if : {A : Type 0} (short : Type 0) (stop : Option ErrorKind) (n m : ℕ) (e : PacError) (r : Result A PacError)
    → (n < m → IsEnd short stop e) → IfErr r (IsEnd short stop) → IfErr (if nat_lt n m then Err e else r) (IsEnd short stop)
ends-if {A} short stop n m e r few enough =
    elim (cases_lt n m) [
      | inl less ↦
          let test : nat_lt n m ≡ true = grind (arith, nat_tests) in
          subst (λ (b : Bool). IfErr (if b then Err e else r) (IsEnd short stop)) (sym test) (few less)
      | inr more ↦
          let test : nat_lt n m ≡ false = grind (arith, nat_tests) in
          subst (λ (b : Bool). IfErr (if b then Err e else r) (IsEnd short stop)) (sym test) enough
    ]

short-ends : (short : Type 0) (stop : Option ErrorKind) → short → IsEnd short stop (short_of stop)
short-ends short None is = (refl, is)
short-ends short (Some k) is = (refl, is)

range-ends : (stop : Option ErrorKind) → IsEnd ⊤ stop (range_of stop)
range-ends None = tt
range-ends (Some k) = (refl, tt)

kind-ends : (short : Type 0) (stop : Option ErrorKind) (place : ℕ) (whole : List ℕ) → (length whole - place < 4 → short) → IfErr (kind_at stop place whole) (IsEnd short stop)
kind-ends short stop place whole few =
    ends-if short stop _ 4 _ _ (λ less. short-ends short stop (few less)) (ends-kind short stop (kind_of (le32_at place whole)) _ tt)

fields-ends : (short : Type 0) (stop : Option ErrorKind) (kind : PacBufferType) (place : ℕ) (whole : List ℕ) → (length whole - place < 16 → short)
    → IfErr (fields_at stop kind place whole) (IsEnd short stop)
fields-ends short stop kind place whole few = ends-if short stop _ 16 _ _ (λ less. short-ends short stop (few less)) tt

-- a row's error is that it isn't all there
pub info-ends : (short : Type 0) (stop : Option ErrorKind) (place : ℕ) (whole : List ℕ) → (length whole - place < 16 → short)
    → IfErr (info_at stop place whole) (IsEnd short stop)
info-ends short stop place whole few =
    ends-then short stop _ _ (kind-ends short stop place whole (λ less. few (omega arith))) (λ kind. fields-ends short stop kind place whole few)

buffer-ends : (stop : Option ErrorKind) (place : ℕ) (whole : List ℕ) → IfErr (buffer_at stop place whole) (IsEnd ⊤ stop)
buffer-ends stop place whole =
    ends-then ⊤ stop _ _ (info-ends ⊤ stop place whole (λ _. tt)) (λ info. ends-if {A = Buffer} ⊤ stop (length whole) (info.offset + info.cb_buffer_size) (range_of stop) (Ok (record { info = info; content = take info.cb_buffer_size (drop info.offset whole) })) (λ _. range-ends stop) tt)

buffers-ends : (stop : Option ErrorKind) (n place : ℕ) (whole : List ℕ) → IfErr (buffers_at stop n place whole) (IsEnd ⊤ stop)
buffers-ends stop zero place whole = tt
buffers-ends stop (suc n) place whole =
    ends-then ⊤ stop _ _ (buffer-ends stop place whole) (λ b. ends-then ⊤ stop _ _ (buffers-ends stop n (place + 16) whole) (λ bs. tt))

head-ends : (stop : Option ErrorKind) (whole : List ℕ) → IfErr (head_at stop whole) (IsEnd ⊤ stop)
head-ends stop whole =
    let version = le32_at 4 whole in
    ends-if ⊤ stop (length whole) 8 (short_of stop) (if nat_eq version 0 then Ok (le32_at 0 whole) else Err (fault.InvalidVersion version)) (λ _. short-ends ⊤ stop tt)
    (ends-test ⊤ stop (nat_eq version 0) (Ok (le32_at 0 whole)) (fault.InvalidVersion version) tt tt)

pub pac-ends : (stop : Option ErrorKind) (whole : List ℕ) → IfErr (pac_at stop whole) (IsEnd ⊤ stop)
pac-ends stop whole =
    ends-then ⊤ stop (head_at stop whole) _ (head-ends stop whole) (λ count. buffers-ends stop count 8 whole)

-- what is wrong with bytes, also where they don't end for want of a device
other-wrong : {A : Type 0} (reads : Option ErrorKind → List ℕ → Result A PacError) (stop : Option ErrorKind) (front : List ℕ) (e : PacError)
    → ((k : ErrorKind) → Extends k (reads (Some k) front) (reads None (front ++ []))) → ((k : ErrorKind) → e ≡ fault.IoError k → ⊥)
    → reads stop front ≡ Err e → (came : List ℕ) × (reads None came ≡ Err e)
other-wrong reads None front e extends other wrong = (front, wrong)
other-wrong {A} reads (Some k) front e extends other wrong =
    elim (subst (λ (r : Result A PacError). Extends k r (reads None (front ++ []))) wrong (extends k)) [
      | inl cut ↦ absurd (other k cut)
      | inr told ↦ (front ++ [], told)
    ]

-- what a refusal of the bytes that came tells of the device
module _ {A : Type 0} (reads : Option ErrorKind → List ℕ → Result A PacError) (short : Type 0) (after : Option (List ℕ)) (stop last : Option ErrorKind) (old new : ℕ) (front : List ℕ)
    (extends : (k : ErrorKind) → Extends k (reads (Some k) front) (reads None (front ++ []))) (stopped : IsStop old new last stop) (ends : stop ≡ None → short → IsAtEnd after) where
  other-told : (e : PacError) → ((k : ErrorKind) → e ≡ fault.IoError k → ⊥) → reads stop front ≡ Err e
      → FailedAtMostOnce old new × (came : List ℕ) × (reads None came ≡ Err e)
  other-told e other wrong =
      let (came, told) = other-wrong reads stop front e extends other wrong in (stopped-once stop last old new stopped, came, told)

io-told : (short : Type 0) (after : Option (List ℕ)) (stop last : Option ErrorKind) (old new : ℕ) (cause : ErrorKind)
    → IsStop old new last stop → (stop ≡ None → short → IsAtEnd after) → (cause ≡ unwrap_or stop UnexpectedEof) × short → IsReadStop after old new last cause
io-told short after None last old new cause stopped ends is = inl (is.0, stopped, ends refl is.1)
io-told short after (Some k) last old new cause stopped ends is = inr (stopped.0, stopped.1 ∙ ap Some (sym is.0))

read-told : {A : Type 0} (reads : Option ErrorKind → List ℕ → Result A PacError) (short : Type 0) (after : Option (List ℕ)) (stop last : Option ErrorKind) (old new : ℕ) (front : List ℕ)
    (extends : (k : ErrorKind) → Extends k (reads (Some k) front) (reads None (front ++ []))) (stopped : IsStop old new last stop) (ends : stop ≡ None → short → IsAtEnd after)
    (e : PacError) → IsEnd short stop e → reads stop front ≡ Err e → TellsRead (reads None) after old new last e
read-told reads short after stop last old new front extends stopped ends (fault.IoError cause) is wrong = io-told short after stop last old new cause stopped ends is
read-told reads short after stop last old new front extends stopped ends (fault.Version n) is wrong =
    other-told reads short after stop last old new front extends stopped ends _ (λ k same. cc) wrong
read-told reads short after stop last old new front extends stopped ends (fault.PacBufferType n) is wrong =
    other-told reads short after stop last old new front extends stopped ends _ (λ k same. cc) wrong
read-told reads short after stop last old new front extends stopped ends (fault.InvalidVersion n) is wrong =
    other-told reads short after stop last old new front extends stopped ends _ (λ k same. cc) wrong
read-told reads short after stop last old new front extends stopped ends fault.InvalidRange is wrong =
    other-told reads short after stop last old new front extends stopped ends _ (λ k same. cc) wrong
read-told reads short after stop last old new front extends stopped ends fault.Memory is wrong =
    other-told reads short after stop last old new front extends stopped ends _ (λ k same. cc) wrong

-- a refused row, of sixteen bytes at most
pub info-told : (after : Option (List ℕ)) (stop last : Option ErrorKind) (old new count m : ℕ) (buffer : List ℕ) (e : PacError)
    → m ≡ count → length buffer ≡ 16 → (stop ≡ None → count < length buffer → IsAtEnd after) → IsStop old new last stop
    → info_at stop 0 (take m buffer) ≡ Err e → TellsRead (info_at None 0) after old new last e
info-told after stop last old new count m buffer e same size ends stopped wrong =
    let front = take m buffer in
    let short : Type 0 = length front < 16 in
    read-told (λ s. info_at s 0) short after stop last old new front (λ k. info-extends k 0 front []) stopped (λ none few. ends none (omega (arith, length-take m buffer))) e
    (subst (λ (r : Result PacInfoBuffer PacError). IfErr r (IsEnd short stop)) wrong (info-ends short stop 0 front (λ few. omega arith))) wrong

-- a row that is whole was read without a fault
pub info-counted : (stop last : Option ErrorKind) (old new count m : ℕ) (buffer : List ℕ) → m ≡ count → length buffer ≡ 16 → 16 ≤ length (take m buffer)
    → IfSome stop (λ _. count < length buffer) → IsStop old new last stop → new ≡ old
info-counted None last old new count m buffer same size full short stopped = stopped
info-counted (Some k) last old new count m buffer same size full short stopped = absurd (omega (arith, length-take m buffer))

-- a refused PAC
pub pac-told : (after : Option (List ℕ)) (stop last : Option ErrorKind) (old new : ℕ) (front : List ℕ) (e : PacError)
    → (stop ≡ None → IsAtEnd after) → IsStop old new last stop → (e ≡ fault.Memory) ⊎ (pac_at stop front ≡ Err e) → TellsPac after old new last e
pac-told after stop last old new front e ends stopped (inl memory) = inl (memory, stopped-once stop last old new stopped)
pac-told after stop last old new front e ends stopped (inr wrong) = inr
    (read-told pac_at ⊤ after stop last old new front (λ k. pac-extends k front []) stopped (λ none _. ends none) e
    (subst (λ (r : Result (List Buffer) PacError). IfErr r (IsEnd ⊤ stop)) wrong (pac-ends stop front)) wrong)

-- a device that failed behind a whole PAC
pub pac-failed : (after : Option (List ℕ)) (stop last : Option ErrorKind) (old new : ℕ) (k : ErrorKind) → stop ≡ Some k → IsStop old new last stop
    → TellsPac after old new last (fault.IoError k)
pac-failed after stop last old new k is stopped = inr (inr (subst (IsStop old new last) is stopped))
