-- What was read of a header from a device is the header, or says why there is none.
use Rattle.std.proofs.Common.{◌≡◌, ℕ, ◌≤◌, ◌<◌, List, [], ◌++◌, length, take, Option, None, Some, IfSome, IfOk, MatchOption, Result, Ok, Err, refl, ap, sym, ◌∙◌, append-nil, inl, inr, arith}
use Rattle.std.specs.Prelude.{◌⊎◌}
use Rattle.std.proofs.lemmas.Bool.{cases_lt}
use Rattle.std.proofs.lemmas.List.{take_at, take_all, length-take}
use Rattle.std.specs.Io.KnownBytes.{Consumes, IsAtEnd}
use Rattle.std.specs.declared.io.ErrorKind.{ErrorKind}
use Rattle.std.specs.declared.io.ErrorKind.TheVariants.{OutOfMemory}
use Rattle.byte_streams.specs.Counting.{one_more}
use Rattle.byte_streams.specs.Stops.{IsStop}
use Rattle.byte_streams.proofs.StopLaws.{stopped-once}
use Rattle.byte_streams.proofs.NumberLaws.{AreBytes}
use Rattle.negoex_messages.specs.Form.{Layout, Answer, Answers}
use Rattle.negoex_messages.specs.Laws.{LayoutLaws}
use Rattle.negoex_messages.specs.declared.error.NegoexError.{NegoexError}
use Rattle.negoex_messages.specs.Sources.{IsCutShort, IsRefusal, IsGiven, IsWrongFront, TellsRead}

-- what a header that ends too soon is answered by
abbrev pub IsAnswer : ErrorKind → Option ErrorKind → ErrorKind → Type 0
IsAnswer kind fault e = MatchOption fault (e ≡ kind) (λ cause. IsCutShort cause kind e)

-- all that is there of the header was read
front-all : (width count : ℕ) (buffer bytes rest : List ℕ) → length buffer ≡ width → count ≤ width → bytes ≡ take count buffer ++ rest
    → (count < width → rest ≡ []) → take count buffer ≡ take width bytes
front-all width count buffer bytes rest size few is ends =
    let front = take count buffer in
    let short : length front ≡ count = omega (arith, length-take count buffer) in
    elim (cases_lt count width) [
      | inl less ↦
          let all : bytes ≡ front = is ∙ ap (λ (l : List ℕ). front ++ l) (ends less) ∙ append-nil front in
          sym (ap (take width) all ∙ take_all width front (omega arith))
      | inr enough ↦ sym (ap (take width) is ∙ take_at front rest width (omega arith))
    ]

pub header-refused : {V : Type 0} (l : Layout V) (left after : Option (List ℕ)) (fault last : Option ErrorKind) (old new count : ℕ) (buffer message : List ℕ) (kind : ErrorKind) (e : NegoexError)
    → length buffer ≡ l.width → count ≤ length buffer → Consumes left after (take count buffer) → (fault ≡ None → count < length buffer → IsAtEnd after)
    → IsStop old new last fault → (kind ≡ OutOfMemory) ⊎ (l.read (take count buffer) message ≡ Err kind) → IsAnswer kind fault e.kind
    → IfSome left (λ bytes. IsRefusal l message bytes after old new last e)
header-refused l None after fault last old new count buffer message kind e size few given ends counted told is = tt
header-refused l (Some bytes) None fault last old new count buffer message kind e size few given ends counted told is = absurd given
header-refused l (Some bytes) (Some rest) None last old new count buffer message kind e size few given ends counted (inl memory) is = inl (is ∙ memory)
header-refused l (Some bytes) (Some rest) None last old new count buffer message kind e size few given ends counted (inr wrong) is =
    let front = front-all l.width count buffer bytes rest size (omega arith) given (λ less. ends refl (omega arith)) in
    inr (inl (ap (λ (h : List ℕ). l.read h message) (sym front) ∙ wrong ∙ ap Err (sym is)))
header-refused l (Some bytes) (Some rest) (Some cause) last old new count buffer message kind e size few given ends counted (inl memory) (inl short) = cc (memory, short.0)
header-refused l (Some bytes) (Some rest) (Some cause) last old new count buffer message kind e size few given ends counted (inl memory) (inr same) = inl (same.1 ∙ memory)
header-refused l (Some bytes) (Some rest) (Some cause) last old new count buffer message kind e size few given ends counted (inr wrong) is =
    inr (inr record {
      cause = cause;
      counted = counted.0;
      told = counted.1;
      came = take count buffer;
      taken = given;
      kind = kind;
      wrong = wrong;
      answered = is;
    })

-- what came of a header that is refused
wrong-front : {V : Type 0} (l : Layout V) (message front : List ℕ) (after : Option (List ℕ)) (old new : ℕ) (kind e : ErrorKind) → length front ≤ l.width
    → (length front < l.width → IsAtEnd after ⊎ (new ≡ one_more old)) → e ≡ kind
    → (kind ≡ OutOfMemory) ⊎ (l.read front message ≡ Err kind) → (e ≡ OutOfMemory) ⊎ IsWrongFront l message after old new e
wrong-front l message front after old new kind e few ended is (inl memory) = inl (is ∙ memory)
wrong-front l message front after old new kind e few ended is (inr wrong) = inr (front, few, ended, wrong ∙ ap Err (sym is))

-- what a refused header tells of any device
pub header-told : {V : Type 0} (l : Layout V) (after : Option (List ℕ)) (fault last : Option ErrorKind) (old new : ℕ) (front message : List ℕ) (kind : ErrorKind) (e : NegoexError)
    → length front ≤ l.width → (fault ≡ None → length front < l.width → IsAtEnd after) → IsStop old new last fault
    → (kind ≡ OutOfMemory) ⊎ (l.read front message ≡ Err kind) → IsAnswer kind fault e.kind
    → TellsRead l message after old new last e
header-told l after None last old new front message kind e few ends stopped told is =
    inl (wrong-front l message front after old new kind e.kind few (λ short. inl (ends refl short)) is told, inl stopped)
header-told l after (Some cause) last old new front message kind e few ends stopped told (inl (short, same)) = inr (stopped.0, stopped.1 ∙ ap Some (sym same))
header-told l after (Some cause) last old new front message kind e few ends stopped told (inr (other, same)) =
    inl (wrong-front l message front after old new kind e.kind few (λ _. inr stopped.0) same told, stopped-once (Some cause) last old new stopped)

-- a header that is whole was read without a fault
pub header-counted : {T V : Type 0} (view : T → V) (l : Layout V) → LayoutLaws l → (t : T) (fault last : Option ErrorKind) (old new count : ℕ) (buffer message : List ℕ)
    → length buffer ≡ l.width → IfSome fault (λ _. count < length buffer) → IsStop old new last fault → l.IsLaid (view t) (take count buffer) message → new ≡ old
header-counted view l laws t None last old new count buffer message size few stopped laid = stopped
header-counted view l laws t (Some cause) last old new count buffer message size few stopped laid =
    absurd (omega (arith, laws.full (view t) (take count buffer) message laid, length-take count buffer))

-- what was read of some bytes is there
pub value-found : {T V : Type 0} (view : T → V) (l : Layout V) → LayoutLaws l → (header message : List ℕ) → AreBytes header → AreBytes message → length header ≤ l.width
    → (result : Result T NegoexError) → Answers view (l.read header message) result → IfOk result (λ t. l.IsLaid (view t) header message)
value-found view l laws header message header_bytes bytes few (Ok t) told = laws.found (view t) header message header_bytes bytes few told
value-found view l laws header message header_bytes bytes few (Err e) told = tt

given-same : {V : Type 0} (r : Answer V) (v w : V) → r ≡ Ok v → r ≡ Ok w → v ≡ w
given-same r v w e f = cc (e, f)

-- what was read is what is there
pub header-given : {T V : Type 0} (view : T → V) (l : Layout V) → LayoutLaws l → (t : T) (left after : Option (List ℕ)) (last : Option ErrorKind) (old new count : ℕ) (buffer message : List ℕ)
    → Consumes left after (take count buffer) → l.read (take count buffer) message ≡ Ok (view t) → l.IsLaid (view t) (take count buffer) message
    → IfSome left (λ bytes. IsGiven view l message bytes after old new last (Ok t))
header-given view l laws t None after last old new count buffer message given read laid = tt
header-given view l laws t (Some whole) None last old new count buffer message given read laid = absurd given
header-given view l laws t (Some whole) (Some rest) last old new count buffer message given read laid =
    let front = take count buffer in
    let full = laws.full (view t) front message laid in
    let same : take l.width whole ≡ front = ap (take l.width) given ∙ take_at front rest l.width full in
    λ v fits is. given-same (l.read front message) (view t) v read (ap (λ (h : List ℕ). l.read h message) (sym same) ∙ laws.given v (take l.width whole) message fits is)

-- if the bytes aren't refused, memory ran out or the device failed
pub header-excused : {T V : Type 0} (view : T → V) (l : Layout V) → LayoutLaws l → (left after : Option (List ℕ)) (last : Option ErrorKind) (old new : ℕ) (message : List ℕ) (e : NegoexError)
    → IfSome left (λ bytes. IsRefusal l message bytes after old new last e) → IfSome left (λ bytes. IsGiven {T = T} view l message bytes after old new last (Err e))
header-excused view l laws None after last old new message e refusal = tt
header-excused view l laws (Some whole) after last old new message e (inl memory) = λ v fits is. inl memory
header-excused view l laws (Some whole) after last old new message e (inr (inl wrong)) =
    λ v fits is. let given = laws.given v (take l.width whole) message fits is in cc (wrong, given)
header-excused view l laws (Some whole) after last old new message e (inr (inr broken)) = λ v fits is. inr broken
