-- What was read as a frame, and why none was read, from what its parts were refused for.
use Rattle.std.proofs.Common.{◌≡◌, ℕ, ◌≤◌, ◌<◌, List, [], ◌++◌, length, take, drop, Option, None, Some, IfSome, IsErrAnd, Result, MatchResult, unwrap_or, refl, ap, sym, subst, ◌∙◌, inl, inr, append_assoc, append-nil, arith}
use Rattle.std.specs.Prelude.{◌⊎◌}
use Rattle.std.proofs.lemmas.Bool.{cases_lt}
use Rattle.std.proofs.lemmas.List.{length-append, length-take, append_cancel_left, drop_at}
use Rattle.std.proofs.KnownBytes.{Consumes-trans}
use Rattle.std.specs.Io.KnownBytes.{Consumes, IsAtEnd}
use Rattle.std.specs.declared.io.ErrorKind.{ErrorKind}
use Rattle.std.specs.declared.io.ErrorKind.TheVariants.{InvalidData, UnexpectedEof}
use Rattle.asn1_der.specs.declared.error.Asn1DerError.{Asn1DerError}
use Rattle.asn1_der.specs.declared.error.Asn1DerError.TheVariants as der
use Rattle.asn1_codec.specs.Cuts.{TakesNext, MissesNext}
use Rattle.asn1_codec.specs.Reading.{IsNotNext, IsReadBy, TellsKind, faults_after}
use Rattle.asn1_der.specs.Seen.{Seen, Alike, seen_pair}
use Rattle.asn1_der.proofs.Alike.{alike-pair, alike-part}
use Rattle.asn1_codec.specs.Reads.{IsOneValue}
use Rattle.byte_streams.specs.Numbers.{be16_at}
use Rattle.byte_streams.specs.Stops.{IsStop, IsReadStop}
use Rattle.byte_streams.proofs.StopLaws.{stopped-once, short-stop}
use Rattle.byte_streams.proofs.Exits.{at-exit}
use Rattle.byte_streams.proofs.NumberLaws.{be16-again, be16_at-append}
use Rattle.microsoft_messages.specs.declared.error.KrbPrivFrameError.{KrbPrivFrameError}
use Rattle.microsoft_messages.specs.declared.frame.KrbPrivFrame.{KrbPrivFrame}
use Rattle.microsoft_messages.specs.Frames.{IsHeader}
use Rattle.microsoft_messages.specs.Reading.{HasOtherVersion, HasNoParts, IsHeaderFault, IsHeaderRefusal, IsDeviceFault, IsExcuse, IsRefusal, TellsRead, der_kind, element_limit, IsFramedAs, BeginsFramed, IsUnframed, seen_frame}
use Rattle.microsoft_messages.proofs.FrameLaws.{frame-joined, frame-split}

-- another version that came is the bytes'
other-more : (front rest : List ℕ) → HasOtherVersion front → HasOtherVersion (front ++ rest)
other-more front rest (there, other) =
    (omega (arith, length-append front rest), λ one. other (sym (be16_at-append 2 front rest there) ∙ one))

-- another version of the bytes came, or fewer than four bytes did
other-came : (front rest : List ℕ) → (HasOtherVersion front → ⊥) → HasOtherVersion (front ++ rest) → length front < 4
other-came front rest fine (there, other) =
    elim (cases_lt (length front) 4) [
      | inl few ↦ few
      | inr long ↦ absurd (fine (long, λ one. other (be16_at-append 2 front rest long ∙ one)))
    ]

pub header-refused : (short : ErrorKind) (left after : Option (List ℕ)) (fault last : Option ErrorKind) (old new count m : ℕ) (buffer : List ℕ) (e : ErrorKind)
    → m ≡ count → length buffer ≡ 6 → short ≡ unwrap_or fault UnexpectedEof
    → Consumes left after (take count buffer) → (fault ≡ None → count < length buffer → IsAtEnd after) → IsStop old new last fault
    → ((e ≡ InvalidData) × HasOtherVersion (take m buffer)) ⊎ ((e ≡ short) × (length (take m buffer) < 6) × (HasOtherVersion (take m buffer) → ⊥))
    → IfSome left (λ bytes. IsHeaderRefusal bytes after old new last e)
header-refused short None after fault last old new count m buffer e same size is_short given ends stopped why = tt
header-refused short (Some whole) None fault last old new count m buffer e same size is_short given ends stopped why = absurd given
header-refused short (Some whole) (Some rest) fault last old new count m buffer e same size is_short given ends stopped (inl (is, other)) =
    let there : HasOtherVersion (take count buffer) = subst (λ (n : ℕ). HasOtherVersion (take n buffer)) same other in
    inr (inl (is, subst HasOtherVersion (sym given) (other-more (take count buffer) rest there)))
header-refused short (Some whole) (Some rest) (Some k) last old new count m buffer e same size is_short given ends stopped (inr (is, few, fine)) =
    let fine_here : HasOtherVersion (take count buffer) → ⊥ = subst (λ (n : ℕ). HasOtherVersion (take n buffer) → ⊥) same fine in
    inl record {
      device = (stopped.0, stopped.1 ∙ ap Some (sym (is ∙ is_short)));
      early = λ other. (take count buffer, given, other-came (take count buffer) rest fine_here (subst HasOtherVersion given other));
    }
header-refused short (Some whole) (Some rest) None last old new count m buffer e same size is_short given ends stopped (inr (is, few, fine)) =
    let fewer : count < length buffer = omega (arith, length-take m buffer) in
    let none : rest ≡ [] = ends refl fewer in
    let all : whole ≡ take m buffer =
    given ∙ ap (λ (l : List ℕ). take count buffer ++ l) none ∙ append-nil (take count buffer) ∙ ap (λ (n : ℕ). take n buffer) (sym same) in
    inr (inr (is ∙ is_short, omega (arith, ap length all), λ other. fine (subst HasOtherVersion all other)))

-- a header that is whole was read without a fault
pub header-counted : (fault last : Option ErrorKind) (old new count m : ℕ) (buffer : List ℕ)
    → m ≡ count → length buffer ≡ 6 → IfSome fault (λ _. count < length buffer) → IsStop old new last fault
    → 6 ≤ length (take m buffer) → new ≡ old
header-counted None last old new count m buffer same size few stopped long = stopped
header-counted (Some k) last old new count m buffer same size few stopped long = absurd (omega (arith, length-take m buffer))

-- what a refused header tells of any device
pub header-told : (short : ErrorKind) (after : Option (List ℕ)) (fault last : Option ErrorKind) (old new count m : ℕ) (buffer : List ℕ) (e : ErrorKind)
    → m ≡ count → length buffer ≡ 6 → short ≡ unwrap_or fault UnexpectedEof → (fault ≡ None → count < length buffer → IsAtEnd after) → IsStop old new last fault
    → ((e ≡ InvalidData) × HasOtherVersion (take m buffer)) ⊎ ((e ≡ short) × (length (take m buffer) < 6) × (HasOtherVersion (take m buffer) → ⊥))
    → TellsRead after old new last e
header-told short after fault last old new count m buffer e same size is_short ends stopped (inl (is, other)) =
    inr (inl (is, stopped-once fault last old new stopped))
header-told short after fault last old new count m buffer e same size is_short ends stopped (inr (is, few, fine)) =
    inr (inr (subst (IsReadStop after old new last) (sym (is ∙ is_short))
    (short-stop after fault last old new count (length buffer) stopped ends (omega (arith, length-take m buffer)))))

-- and a refused part
pub part-told : (after : Option (List ℕ)) (fault : Asn1DerError) (old new : ℕ) (last : Option ErrorKind) (e : ErrorKind)
    → new ≡ faults_after fault old → TellsKind fault last → e ≡ der_kind fault → TellsRead after old new last e
part-told after der.Memory old new last e count kind is = inl (is, count)
part-told after (der.Other k) old new last e count kind is = inr (inr (inr (count, kind ∙ ap Some (sym is))))
part-told after der.TruncatedData old new last e count kind is = inr (inl (is, inl count))
part-told after der.InvalidData old new last e count kind is = inr (inl (is, inl count))
part-told after der.UnsupportedValue old new last e count kind is = inr (inl (is, inl count))
part-told after der.UnsupportedType old new last e count kind is = inr (inl (is, inl count))
part-told after der.InvalidSink old new last e count kind is = inr (inl (is, inl count))
part-told after (der.Message rule) old new last e count kind is = inr (inl (is, inl count))

-- the same from a call before, in which none failed
pub told-since : (after : Option (List ℕ)) (old mid new : ℕ) (last : Option ErrorKind) (e : ErrorKind) → mid ≡ old → TellsRead after mid new last e → TellsRead after old new last e
told-since after old mid new last e same told = subst (λ (n : ℕ). TellsRead after n new last e) same told

-- a part that wasn't read
pub part-refused : {T : Type 0} (reads : T → List ℕ → Type 0) (left : Option (List ℕ)) (fault : Asn1DerError) (old new : ℕ) (last : Option ErrorKind) (e : ErrorKind)
    → MissesNext reads element_limit left fault → new ≡ faults_after fault old → TellsKind fault last → e ≡ der_kind fault
    → IsExcuse old new last e ⊎ ((e ≡ InvalidData) × IsNotNext (IsReadBy reads) left element_limit)
part-refused reads left der.Memory old new last e why count kind is = inl (inl is)
part-refused reads left (der.Other k) old new last e why count kind is = inl (inr (count, kind ∙ ap Some (sym is)))
part-refused reads left der.TruncatedData old new last e (inl excuse) count kind is = absurd excuse
part-refused reads left der.TruncatedData old new last e (inr missing) count kind is = inr (is, missing)
part-refused reads left der.InvalidData old new last e (inl excuse) count kind is = absurd excuse
part-refused reads left der.InvalidData old new last e (inr missing) count kind is = inr (is, missing)
part-refused reads left der.UnsupportedValue old new last e (inl excuse) count kind is = absurd excuse
part-refused reads left der.UnsupportedValue old new last e (inr missing) count kind is = inr (is, missing)
part-refused reads left der.UnsupportedType old new last e (inl excuse) count kind is = absurd excuse
part-refused reads left der.UnsupportedType old new last e (inr missing) count kind is = inr (is, missing)
part-refused reads left der.InvalidSink old new last e (inl excuse) count kind is = absurd excuse
part-refused reads left der.InvalidSink old new last e (inr missing) count kind is = inr (is, missing)
part-refused reads left (der.Message rule) old new last e (inl excuse) count kind is = absurd excuse
part-refused reads left (der.Message rule) old new last e (inr missing) count kind is = inr (is, missing)

-- a frame's bytes are a header, and its parts
begun : {A P : Type 0} (ra : A → List ℕ → Type 0) (rp : P → List ℕ → Type 0) (a : A) (p : P) (bytes : List ℕ) (begins : BeginsFramed ra rp a p bytes)
    → IsHeader (take 6 begins.0) × (bytes ≡ take 6 begins.0 ++ (begins.2.ap ++ (begins.2.private ++ begins.1)))
begun ra rp a p bytes (whole, rest, is, begins) =
    let split = frame-split is.ap is.private whole is.framed in
    let header = take 6 whole in (
      split.0,
      begins ∙ ap (λ (l : List ℕ). l ++ rest) split.1
          ∙ append_assoc header (is.ap ++ is.private) rest ∙ ap (λ (l : List ℕ). header ++ l) (append_assoc is.ap is.private rest),
    )

-- two headers in front of the same bytes leave the same
same_behind : (header other x y : List ℕ) → length header ≡ 6 → length other ≡ 6 → header ++ x ≡ other ++ y → x ≡ y
same_behind header other x y long also is =
    sym (drop_at header x 6 long) ∙ ap (drop 6) is ∙ drop_at other y 6 also

-- what a header in front says of the bytes
headed : (header more : List ℕ) → IsHeader header → (6 ≤ length (header ++ more)) × (be16_at 2 (header ++ more) ≡ 1)
headed header more (long, version) =
    (omega (arith, length-append header more), be16_at-append 2 header more (omega arith) ∙ be16-again 2 1 header (omega arith) version)

-- the same of bytes that begin with one
headed-bytes : (bytes header more : List ℕ) → bytes ≡ header ++ more → IsHeader header → (6 ≤ length bytes) × (be16_at 2 bytes ≡ 1)
headed-bytes bytes header more given is = subst (λ (l : List ℕ). (6 ≤ length l) × (be16_at 2 l ≡ 1)) (sym given) (headed header more is)

fault-unframed : {A P : Type 0} (ra : A → List ℕ → Type 0) (rp : P → List ℕ → Type 0) (bytes : List ℕ) (e : ErrorKind) → IsHeaderFault bytes e → IsUnframed ra rp bytes
fault-unframed ra rp bytes e (inl (is, (there, other))) a p begins =
    let split = begun ra rp a p bytes begins in
    other (headed-bytes bytes _ _ split.1 split.0).1
fault-unframed ra rp bytes e (inr (is, few, fine)) a p begins =
    let split = begun ra rp a p bytes begins in
    let long = (headed-bytes bytes _ _ split.1 split.0).0 in
    omega arith

-- no frame since there is no header
pub no-header : {A P : Type 0} (ra : A → List ℕ → Type 0) (rp : P → List ℕ → Type 0) (left after : Option (List ℕ)) (old new : ℕ) (last : Option ErrorKind) (e : ErrorKind)
    → IfSome left (λ bytes. IsHeaderRefusal bytes after old new last e) → IfSome left (λ bytes. IsRefusal ra rp bytes after old new last e)
no-header ra rp None after old new last e why = tt
no-header ra rp (Some bytes) after old new last e why = inr (inl why)

-- no frame since no AP message is behind the header
no-ap : {A P : Type 0} (ra : A → List ℕ → Type 0) (rp : P → List ℕ → Type 0) (left after : Option (List ℕ)) (header : List ℕ)
    → IsHeader header → Consumes left after header → IsNotNext (IsReadBy ra) after element_limit → IfSome left (IsUnframed ra rp)
no-ap ra rp None after header is took none = tt
no-ap ra rp (Some bytes) None header is took none = absurd took
no-ap ra rp (Some bytes) (Some more) header is took none = λ a p begins.
    let split = begun ra rp a p bytes begins in
    let frame = begins.2 in
    let behind : more ≡ frame.ap ++ (frame.private ++ begins.1) = same_behind _ _ _ _ is.0 split.0.0 (sym took ∙ split.1) in
    none frame.ap (frame.private ++ begins.1) (a, frame.ap_read) (ap Some behind) frame.ap_fits

-- no frame since no KRB-PRIV is behind the AP message
no-private : {A P : Type 0} (seen : Seen A) (ra : A → List ℕ → Type 0) (rp : P → List ℕ → Type 0) → IsOneValue seen ra → (left mid after : Option (List ℕ)) (header front : List ℕ) (v : A)
    → IsHeader header → Consumes left mid header → ra v front → Consumes mid after front → IsNotNext (IsReadBy rp) after element_limit → IfSome left (IsUnframed ra rp)
no-private seen ra rp one None mid after header front v is took read then none = tt
no-private seen ra rp one (Some bytes) None after header front v is took read then none = absurd took
no-private seen ra rp one (Some bytes) (Some more) None header front v is took read then none = absurd then
no-private seen ra rp one (Some bytes) (Some more) (Some rest) header front v is took read then none = λ a p begins.
    let split = begun ra rp a p bytes begins in
    let frame = begins.2 in
    let behind : more ≡ frame.ap ++ (frame.private ++ begins.1) = same_behind _ _ _ _ is.0 split.0.0 (sym took ∙ split.1) in
    let both = one v a front frame.ap rest (frame.private ++ begins.1) read frame.ap_read (sym then ∙ behind) in
    let last : rest ≡ frame.private ++ begins.1 =
    append_cancel_left frame.ap rest (frame.private ++ begins.1) (ap (λ (l : List ℕ). l ++ rest) (sym both.1) ∙ sym then ∙ behind) in
    none frame.private begins.1 (p, frame.private_read) (ap Some last) frame.private_fits

-- what was read is a frame
pub all-read : {A P : Type 0} (ra : A → List ℕ → Type 0) (rp : P → List ℕ → Type 0) (left first second after : Option (List ℕ)) (header : List ℕ) (a : A) (p : P)
    → IsHeader header → Consumes left first header → TakesNext ra element_limit first second a → TakesNext rp element_limit second after p
    → (whole : List ℕ) × IsFramedAs ra rp a p whole × Consumes left after whole
all-read ra rp left first second after header a p is took (x, x_read, x_fits, x_took) (y, y_read, y_fits, y_took) = (
  header ++ (x ++ y),
  record {
    ap = x;
    private = y;
    ap_read = x_read;
    private_read = y_read;
    ap_fits = x_fits;
    private_fits = y_fits;
    framed = frame-joined header x y is;
  },
  Consumes-trans left first after header (x ++ y) took (Consumes-trans first second after x y x_took y_took),
)

-- the bytes begin with one frame
one-frame : {A P : Type 0} (sa : Seen A) (sp : Seen P) (ra : A → List ℕ → Type 0) (rp : P → List ℕ → Type 0) → IsOneValue sa ra → IsOneValue sp rp
    → (left after : Option (List ℕ)) (v : A) (w : P) → (whole : List ℕ) × IsFramedAs ra rp v w whole × Consumes left after whole
    → IfSome left (λ bytes. (a : A) (p : P) → BeginsFramed ra rp a p bytes → Alike sa v a × Alike sp w p)
one-frame sa sp ra rp one_a one_p None after v w found = tt
one-frame sa sp ra rp one_a one_p (Some bytes) None v w (whole, is, took) = absurd took
one-frame sa sp ra rp one_a one_p (Some bytes) (Some rest) v w (whole, is, took) = λ a p begins.
    let first = begun ra rp v w bytes (whole, rest, is, took) in
    let second = begun ra rp a p bytes begins in
    let frame = begins.2 in
    let behind : is.ap ++ (is.private ++ rest) ≡ frame.ap ++ (frame.private ++ begins.1) =
    same_behind _ _ _ _ first.0.0 second.0.0 (sym first.1 ∙ second.1) in
    let both = one_a v a is.ap frame.ap (is.private ++ rest) (frame.private ++ begins.1) is.ap_read frame.ap_read behind in
    let last : is.private ++ rest ≡ frame.private ++ begins.1 =
    append_cancel_left frame.ap (is.private ++ rest) (frame.private ++ begins.1)
    (ap (λ (l : List ℕ). l ++ (is.private ++ rest)) (sym both.1) ∙ behind) in
    (both.0, (one_p w p is.private frame.private rest begins.1 is.private_read frame.private_read last).0)

-- an excuse behind a header
excused : {A P : Type 0} (ra : A → List ℕ → Type 0) (rp : P → List ℕ → Type 0) (bytes header more : List ℕ) (after : Option (List ℕ)) (old mid new : ℕ) (last : Option ErrorKind) (e : ErrorKind)
    → bytes ≡ header ++ more → IsHeader header → mid ≡ old → IsExcuse mid new last e → IsRefusal ra rp bytes after old new last e
excused ra rp bytes header more after old mid new last e given is same (inl memory) = inl memory
excused ra rp bytes header more after old mid new last e given is same (inr device) =
    inr (inl (inl record {
      device = subst (λ (n : ℕ). IsDeviceFault n new last e) same device;
      early = λ other. absurd (other.1 (headed-bytes bytes header more given is).1);
    }))

-- no frame, and a header is in front
partless : {A P : Type 0} (ra : A → List ℕ → Type 0) (rp : P → List ℕ → Type 0) (bytes header more : List ℕ) → bytes ≡ header ++ more → IsHeader header
    → IsUnframed ra rp bytes → HasNoParts ra rp bytes
partless ra rp bytes header more given is none =
    let both = headed-bytes bytes header more given is in
    record { long = both.0; version = both.1; none = none }

pub ap-refused : {A P : Type 0} (ra : A → List ℕ → Type 0) (rp : P → List ℕ → Type 0) (left first after : Option (List ℕ)) (old mid new : ℕ) (last : Option ErrorKind) (e : ErrorKind)
    → mid ≡ old → (header : List ℕ) × IsHeader header × Consumes left first header
    → IsExcuse mid new last e ⊎ ((e ≡ InvalidData) × IsNotNext (IsReadBy ra) first element_limit)
    → IfSome left (λ bytes. IsRefusal ra rp bytes after old new last e)
ap-refused ra rp None first after old mid new last e same headed why = tt
ap-refused ra rp (Some bytes) None after old mid new last e same (header, is, took) why = absurd took
ap-refused ra rp (Some bytes) (Some more) after old mid new last e same (header, is, took) (inl excuse) =
    excused ra rp bytes header more after old mid new last e took is same excuse
ap-refused ra rp (Some bytes) (Some more) after old mid new last e same (header, is, took) (inr (wrong, none)) =
    inr (inr (wrong, partless ra rp bytes header more took is (no-ap ra rp (Some bytes) (Some more) header is took none)))

pub private-refused : {A P : Type 0} (seen : Seen A) (ra : A → List ℕ → Type 0) (rp : P → List ℕ → Type 0) → IsOneValue seen ra
    → (left first second after : Option (List ℕ)) (old mid later new : ℕ) (last : Option ErrorKind) (e : ErrorKind) (v : A)
    → mid ≡ old → later ≡ mid → (header : List ℕ) × IsHeader header × Consumes left first header → TakesNext ra element_limit first second v
    → IsExcuse later new last e ⊎ ((e ≡ InvalidData) × IsNotNext (IsReadBy rp) second element_limit)
    → IfSome left (λ bytes. IsRefusal ra rp bytes after old new last e)
private-refused seen ra rp one None first second after old mid later new last e v same also headed taken why = tt
private-refused seen ra rp one (Some bytes) None second after old mid later new last e v same also (header, is, took) taken why = absurd took
private-refused seen ra rp one (Some bytes) (Some more) second after old mid later new last e v same also (header, is, took) taken (inl excuse) =
    excused ra rp bytes header more after old later new last e took is (also ∙ same) excuse
private-refused seen ra rp one (Some bytes) (Some more) second after old mid later new last e v same also (header, is, took) (x, read, fits, then) (inr (wrong, none)) =
    inr (inr (wrong, partless ra rp bytes header more took is (no-private seen ra rp one (Some bytes) (Some more) second header x v is took read then none)))

-- what is answered where some frame is there
excuse-of : {A P : Type 0} (ra : A → List ℕ → Type 0) (rp : P → List ℕ → Type 0) (bytes : List ℕ) (after : Option (List ℕ)) (old new : ℕ) (last : Option ErrorKind) (e : ErrorKind)
    → IsRefusal ra rp bytes after old new last e → IsExcuse old new last e ⊎ IsUnframed ra rp bytes
excuse-of ra rp bytes after old new last e (inl memory) = inl (inl memory)
excuse-of ra rp bytes after old new last e (inr (inl (inl broken))) = inl (inr broken.device)
excuse-of ra rp bytes after old new last e (inr (inl (inr fault))) = inr (fault-unframed ra rp bytes e fault)
excuse-of ra rp bytes after old new last e (inr (inr (wrong, partless))) = inr partless.none

pub refused-only : {T A P : Type 0} (Same : T → T → Type 0) (ra : A → List ℕ → Type 0) (rp : P → List ℕ → Type 0) (fa : T → A) (fp : T → P)
    (left after : Option (List ℕ)) (r : Result T KrbPrivFrameError) (e : ErrorKind) (old new : ℕ) (last : Option ErrorKind)
    → IsErrAnd r (λ y. y ≡ record { kind = e }) → IfSome left (λ bytes. IsRefusal ra rp bytes after old new last e)
    → IfSome left (λ bytes. (m : T) → BeginsFramed ra rp (fa m) (fp m) bytes → MatchResult r (λ read. Same read m) (λ f. IsExcuse old new last f.kind))
refused-only Same ra rp fa fp None after r e old new last is why = tt
refused-only Same ra rp fa fp (Some bytes) after r e old new last is why = λ m begins.
    elim (excuse-of ra rp bytes after old new last e why) [
      | inl excuse ↦ at-exit r (record { kind = e }) _ _ is excuse
      | inr none ↦ absurd (none (fa m) (fp m) begins)
    ]

pub read-only : {T A P : Type 0} (Same : T → T → Type 0) (sa : Seen A) (sp : Seen P) (ra : A → List ℕ → Type 0) (rp : P → List ℕ → Type 0) (fa : T → A) (fp : T → P)
    → IsOneValue sa ra → IsOneValue sp rp
    → (left after : Option (List ℕ)) (made : T) → ((m : T) → Alike sa (fa made) (fa m) → Alike sp (fp made) (fp m) → Same made m)
    → (whole : List ℕ) × IsFramedAs ra rp (fa made) (fp made) whole × Consumes left after whole
    → IfSome left (λ bytes. (m : T) → BeginsFramed ra rp (fa m) (fp m) bytes → Same made m)
read-only Same sa sp ra rp fa fp one_a one_p None after made join found = tt
read-only Same sa sp ra rp fa fp one_a one_p (Some bytes) after made join found = λ m begins.
    let both = one-frame sa sp ra rp one_a one_p (Some bytes) after (fa made) (fp made) found (fa m) (fp m) begins in
    join m both.0 both.1

-- frames of which both parts show the same
pub same-frame : {A P : Type 0} (sa : Seen A) (sp : Seen P) (v w : KrbPrivFrame A P) → Alike sa v.ap_message w.ap_message → Alike sp v.krb_priv w.krb_priv → Alike (seen_frame sa sp) v w
same-frame sa sp v w same also =
    alike-part (seen_pair sa sp) v w (λ m. (m.ap_message, m.krb_priv)) (λ parts. record { ap_message = parts.0; krb_priv = parts.1 }) (λ m. refl)
    (alike-pair sa sp (v.ap_message, v.krb_priv) (w.ap_message, w.krb_priv) same also)
