-- What the bytes that were read say of a stream's front.
use Rattle.std.proofs.Common.{◌≡◌, ◌≢◌, ℕ, ◌+◌, ◌<◌, ◌≤◌, List, [], ◌++◌, length, take, drop, nat_lt, if◌then◌else◌, Option, Some, None, refl, ap, sym, subst, ◌∙◌, arith}
use Rattle.std.proofs.lemmas.Bool.Decides.{nat_tests}
use Rattle.std.proofs.lemmas.Grind.{common_steps}
use Rattle.std.specs.Io.KnownBytes.{Consumes}
use Rattle.std.proofs.Math.Seq.{drop-drop}
use Rattle.std.proofs.lemmas.List.{take_all, take_at, drop_at}
use Rattle.byteorder.specs.Endian.{big_number}
use Rattle.byteorder.specs.Numbers.{big_from-append}
use Rattle.krb_frames.specs.declared.fault.ServeFault.TheVariants.{Truncated, FrameTooLong, NoRequest, Read, Write, NoWords, NoMoment, ReplyTooLong, Memory, Accounts}
use Rattle.krb_frames.specs.declared.fault.ServeFault.{ServeFault}
use Rattle.krb_frames.specs.Frames.{Front, Ended, Bad, Whole, front_of, announced, frame_room}
use Rattle.krb_frames.specs.Steps.{IsFilled, IsTaken, IsBroken, IsMessageStop, IsFrontFault}

-- ---- the tests of `front_of` on plain numbers

module _ (ended short long cut whole : Front) where
  abbrev pub tested : ℕ → ℕ → ℕ → Front
  tested all size left =
      if nat_lt 0 all then
      (if nat_lt all 4 then short
      else if nat_lt 65536 size then long
      else if nat_lt left size then cut
      else whole)
      else ended

  tested-short : (all size left : ℕ) → all ≢ 0 → all < 4 → tested all size left ≡ short
  tested-short all size left some few = grind (arith, nat_tests)

  tested-long : (all size left : ℕ) → 4 ≤ all → 65536 < size → tested all size left ≡ long
  tested-long all size left enough big = grind (arith, nat_tests)

  tested-cut : (all size left : ℕ) → 4 ≤ all → size ≤ 65536 → left < size → tested all size left ≡ cut
  tested-cut all size left enough small few = grind (arith, nat_tests)

  tested-whole : (all size left : ℕ) → 4 ≤ all → size ≤ 65536 → size ≤ left → tested all size left ≡ whole
  tested-whole all size left enough small fits = grind (arith, nat_tests)

-- ---- how many bytes the first frame takes at most

room-least : (size : ℕ) → 4 ≤ (if nat_lt 65536 size then 4 else 4 + size)
room-least size = grind (arith, nat_tests)

frame_room-least : (stream : List ℕ) → 4 ≤ frame_room stream
frame_room-least stream = room-least (announced stream)

room-whole : (size : ℕ) → size ≤ 65536 → (if nat_lt 65536 size then 4 else 4 + size) ≡ 4 + size
room-whole size small = grind (arith, nat_tests)

frame_room-whole : (stream : List ℕ) → announced stream ≤ 65536 → frame_room stream ≡ 4 + announced stream
frame_room-whole stream = room-whole (announced stream)

-- ---- a reader that failed

IsBroken-from_read : (stream buffer : List ℕ) (left : Option (List ℕ)) (n : ℕ) → Consumes (Some stream) left (take n buffer) → IsBroken stream left (length buffer)
IsBroken-from_read stream buffer None n wrong = absurd wrong
IsBroken-from_read stream buffer (Some rest) n whole = (
  length (take n buffer),
  grind (arith, common_steps),
  ap Some (sym (ap (drop (length (take n buffer))) whole ∙ drop_at (take n buffer) rest (length (take n buffer)) refl)),
)

pub IsBroken-from_Consumes : (stream buffer : List ℕ) (old new : Option (List ℕ)) (n : ℕ) → old ≡ Some stream → Consumes old new (take n buffer)
    → IsBroken stream new (length buffer)
IsBroken-from_Consumes stream buffer old new n known read = IsBroken-from_read stream buffer new n (subst (λ o. Consumes o new (take n buffer)) known read)

-- within the length a frame is broken, too
pub IsBroken-in_prefix : (stream : List ℕ) (left : Option (List ℕ)) (room : ℕ) → room ≡ 4 → IsBroken stream left room → IsFrontFault stream left Read
IsBroken-in_prefix stream left room four broken = (broken.0, omega (arith, four, broken.1, frame_room-least stream), broken.2)

-- ---- a stream whose first bytes were read into a prefix

pub front_of-nothing : (stream prefix : List ℕ) (left : Option (List ℕ)) (n : ℕ) → length prefix ≡ 4 → n ≡ 0 → IsFilled stream left prefix n → front_of stream ≡ Ended
front_of-nothing stream prefix left n four none filled =
    ap front_of (filled.whole ∙ ap (λ m. take m prefix ++ filled.rest) none ∙ filled.ends (omega arith))

-- and nothing of it was read
pub left-nothing : (stream prefix : List ℕ) (left : Option (List ℕ)) (n : ℕ) → n ≡ 0 → IsFilled stream left prefix n → left ≡ Some stream
left-nothing stream prefix left n none filled = filled.known ∙ ap Some (sym (filled.whole ∙ ap (λ m. take m prefix ++ filled.rest) none))

-- a short buffer took all of the stream
pub left-none : (stream buffer : List ℕ) (left : Option (List ℕ)) (n : ℕ) → n < length buffer → IsFilled stream left buffer n → left ≡ Some []
left-none stream buffer left n few filled = filled.known ∙ ap Some (filled.ends few)

pub front_of-short : (stream prefix : List ℕ) (left : Option (List ℕ)) (n : ℕ) → length prefix ≡ 4 → n ≢ 0 → n < 4 → IsFilled stream left prefix n
    → front_of stream ≡ Bad Truncated
front_of-short stream prefix left n four some few filled =
    let all : length stream ≡ n = ap length (filled.whole ∙ ap (λ l. take n prefix ++ l) (filled.ends (omega arith))) ∙ grind (arith, common_steps) in
    let a = announced stream in
    let after = drop 4 stream in
    tested-short Ended (Bad Truncated) (Bad FrameTooLong) (Bad Truncated) (Whole (take a after) (drop a after)) (length stream) a (length after) (omega arith) (omega arith)

-- a stream that begins with a whole prefix
pub record Begins (stream : List ℕ) (size : ℕ) (rest : List ℕ) : Type 0 where
  pub enough : 4 ≤ length stream
  pub size_is : announced stream ≡ size
  pub rest_is : drop 4 stream ≡ rest

pub begins : (stream prefix : List ℕ) (left : Option (List ℕ)) (n size : ℕ) → length prefix ≡ 4 → 4 ≤ n → size ≡ big_number 4 prefix
    → (filled : IsFilled stream left prefix n) → Begins stream size filled.rest
begins stream prefix left n size four enough is filled =
    let joined : stream ≡ prefix ++ filled.rest = filled.whole ∙ ap (λ l. l ++ filled.rest) (take_all n prefix (omega arith)) in
    record {
      enough = grind (arith, common_steps, ap length joined);
      size_is = ap announced joined ∙ big_from-append 4 prefix filled.rest (omega arith) ∙ sym is;
      rest_is = ap (drop 4) joined ∙ drop_at prefix filled.rest 4 four;
    }

-- its first four bytes were read
pub left-behind_prefix : (stream : List ℕ) (size : ℕ) (rest : List ℕ) (left : Option (List ℕ)) → Begins stream size rest → left ≡ Some rest → left ≡ Some (drop 4 stream)
left-behind_prefix stream size rest left b known = known ∙ ap Some (sym b.rest_is)

pub front_of-long : (stream : List ℕ) (size : ℕ) (rest : List ℕ) → Begins stream size rest → 65536 < size → front_of stream ≡ Bad FrameTooLong
front_of-long stream size rest b big = tested-long _ _ _ _ _ (length stream) (announced stream) _ b.enough (omega (arith, b.size_is))

-- the message is cut short
pub front_of-cut : (stream : List ℕ) (size : ℕ) (rest : List ℕ) → Begins stream size rest → size ≤ 65536 → length rest < size → front_of stream ≡ Bad Truncated
front_of-cut stream size rest b small few =
    tested-cut _ _ _ _ _ (length stream) (announced stream) (length (drop 4 stream)) b.enough (omega (arith, b.size_is)) (omega (arith, b.size_is, ap length b.rest_is))

-- why the message was not read
pub IsFrontFault-after_prefix : (stream : List ℕ) (size : ℕ) (rest : List ℕ) (left : Option (List ℕ)) → Begins stream size rest → size ≤ 65536
    → (fault : ServeFault) → IsMessageStop rest left size fault → IsFrontFault stream left fault
IsFrontFault-after_prefix stream size rest left b small Truncated (few, none) = (front_of-cut stream size rest b small few, none)
IsFrontFault-after_prefix stream size rest left b small FrameTooLong why = absurd why
IsFrontFault-after_prefix stream size rest left b small NoRequest why = absurd why
IsFrontFault-after_prefix stream size rest left b small Read (n, within, known) = (
  4 + n,
  omega (arith, within, b.size_is, frame_room-whole stream (omega (arith, b.size_is))),
  known ∙ ap Some (ap (drop n) (sym b.rest_is) ∙ drop-drop n 4 stream),
)
IsFrontFault-after_prefix stream size rest left b small Write why = absurd why
IsFrontFault-after_prefix stream size rest left b small NoWords why = absurd why
IsFrontFault-after_prefix stream size rest left b small NoMoment why = absurd why
IsFrontFault-after_prefix stream size rest left b small ReplyTooLong why = absurd why
IsFrontFault-after_prefix stream size rest left b small Accounts why = absurd why
IsFrontFault-after_prefix stream size rest left b small Memory known = (b.enough, omega (arith, b.size_is), left-behind_prefix stream size rest left b known)

pub front_of-whole : (stream : List ℕ) (size : ℕ) (rest : List ℕ) → Begins stream size rest → size ≤ 65536
    → (message : List ℕ) (left : Option (List ℕ)) → length message ≡ size → (taken : IsTaken rest left message) → front_of stream ≡ Whole message taken.rest
front_of-whole stream size rest b small message left fits taken =
    let all : length rest ≡ size + length taken.rest = grind (arith, common_steps, ap length taken.whole) in
    tested-whole _ _ _ _ _ (length stream) (announced stream) (length (drop 4 stream)) b.enough (omega (arith, b.size_is)) (omega (arith, b.size_is, ap length b.rest_is))
    ∙ ap (λ k. Whole (take k (drop 4 stream)) (drop k (drop 4 stream))) b.size_is
    ∙ ap (λ l. Whole (take size l) (drop size l)) (b.rest_is ∙ taken.whole)
    ∙ ap (λ l. Whole l (drop size (message ++ taken.rest))) (take_at message taken.rest size fits)
    ∙ ap (λ l. Whole message l) (drop_at message taken.rest size fits)

-- what was read into a buffer that is full
pub IsTaken-from_IsFilled : (stream buffer : List ℕ) (left : Option (List ℕ)) (n : ℕ) → length buffer ≤ n → IsFilled stream left buffer n → IsTaken stream left buffer
IsTaken-from_IsFilled stream buffer left n all filled = record {
  rest = filled.rest;
  known = filled.known;
  whole = filled.whole ∙ ap (λ l. l ++ filled.rest) (take_all n buffer all);
}

-- and where it was not, the stream had fewer bytes
pub length-lt-room : (stream buffer : List ℕ) (left : Option (List ℕ)) (n : ℕ) → n < length buffer → IsFilled stream left buffer n → length stream < length buffer
length-lt-room stream buffer left n few filled =
    let all = ap length (filled.whole ∙ ap (λ l. take n buffer ++ l) (filled.ends few)) in
    grind (arith, common_steps, all)

-- the bytes that were taken are the front of the stream
pub taken-front : (stream bytes : List ℕ) (left : Option (List ℕ)) (n : ℕ) → length bytes ≡ n → IsTaken stream left bytes
    → (bytes ≡ take n stream) × (n ≤ length stream) × (left ≡ Some (drop n stream))
taken-front stream bytes left n size taken =
    let all = ap length taken.whole in (
      sym (ap (take n) taken.whole ∙ take_at bytes taken.rest n size),
      grind (arith, common_steps, all),
      taken.known ∙ ap Some (sym (ap (drop n) taken.whole ∙ drop_at bytes taken.rest n size)),
    )
