-- Why a token was not read, from what its parts were refused for.
use Rattle.std.proofs.Common.{◌≡◌, ℕ, ◌<◌, Bool, true, false, if◌then◌else◌, List, [], ◌++◌, length, take, Option, None, Some, IfSome, Ok, Err, unwrap_or, refl, ap, sym, subst, ◌∙◌, inl, inr, append-nil, arith}
use Rattle.std.proofs.lemmas.List.{length-take}
use Rattle.std.proofs.KnownBytes.{Consumes-trans}
use Rattle.std.specs.Io.KnownBytes.{Consumes, IsAtEnd}
use Rattle.std.specs.declared.io.ErrorKind.{ErrorKind}
use Rattle.std.specs.declared.io.ErrorKind.TheVariants.{UnexpectedEof}
use Rattle.byte_streams.specs.Counting.{one_more}
use Rattle.byte_streams.specs.Stops.{IsStop, FailedAtMostOnce}
use Rattle.byte_streams.proofs.StopLaws.{stopped-once, short-stop}
use Rattle.gss_contexts.specs.declared.message_tokens.kind.TokenKind.{TokenKind}
use Rattle.gss_contexts.specs.declared.message_tokens.kind.TokenKind.TheVariants.{Mic, Wrap}
use Rattle.gss_contexts.specs.declared.message_tokens.error.GssApiMessageError.{GssApiMessageError}
use Rattle.gss_contexts.specs.declared.message_tokens.error.GssApiMessageError.TheVariants.{IoError}
use Rattle.gss_contexts.specs.Faults.{IsDeviceFault, IsRestFault}
use Rattle.gss_contexts.specs.MessageTokenJudging.{Verdict, id_judged, filler_judged, length_judged, or_else, judged}
use Rattle.gss_contexts.specs.MessageTokenRefusals.{IsExcuse, IsRefusal, TellsRead}
use Rattle.gss_contexts.proofs.Judgements.{judged-wrong, judged-fine, id-settled, filler-settled, or_else-err, length-err}

-- a header that is whole was read without a fault
pub fine-counted : (kind : TokenKind) (short : ErrorKind) (fault last : Option ErrorKind) (old new count m : ℕ) (buffer : List ℕ)
    → m ≡ count → length buffer ≡ 16 → IfSome fault (λ _. count < length buffer) → IsStop old new last fault
    → judged kind short (take m buffer) ≡ Ok tt → new ≡ old
fine-counted kind short None last old new count m buffer same size few counted fine = counted
fine-counted kind short (Some k) last old new count m buffer same size few counted fine =
    let long = (judged-fine kind short (take m buffer) fine).long in
    absurd (omega (arith, length-take m buffer))

-- a refused header
pub header-refused : (kind : TokenKind) (short : ErrorKind) (left after : Option (List ℕ)) (fault last : Option ErrorKind) (old new count m : ℕ) (buffer : List ℕ) (e : GssApiMessageError)
    → m ≡ count → length buffer ≡ 16 → short ≡ unwrap_or fault UnexpectedEof
    → Consumes left after (take count buffer) → (fault ≡ None → count < length buffer → IsAtEnd after) → IsStop old new last fault
    → judged kind short (take m buffer) ≡ Err e
    → IfSome left (λ whole. IsRefusal kind whole after old new last e)
header-refused kind short None after fault last old new count m buffer e same size is_short given ends counted wrong = tt
header-refused kind short (Some whole) None fault last old new count m buffer e same size is_short given ends counted wrong = absurd given
header-refused kind short (Some whole) (Some rest) None last old new count m buffer e same size is_short given ends counted wrong =
    let front = take count buffer in
    let wrong_front : judged kind UnexpectedEof front ≡ Err e = ap (λ (s : ErrorKind). judged kind s front) (sym is_short) ∙ ap (λ (n : ℕ). judged kind short (take n buffer)) (sym same) ∙ wrong in
    elim (judged-wrong kind UnexpectedEof UnexpectedEof front rest e wrong_front) [
      | inl told ↦ inl (ap (judged kind UnexpectedEof) given ∙ told)
      | inr is ↦
          let few : count < length buffer = omega (arith, is.few, length-take count buffer) in
          let none : rest ≡ [] = ends refl few in
          inl (ap (judged kind UnexpectedEof) given ∙ ap (λ (l : List ℕ). judged kind UnexpectedEof (front ++ l)) none
          ∙ ap (judged kind UnexpectedEof) (append-nil front) ∙ wrong_front)
    ]
header-refused kind short (Some whole) (Some rest) (Some k) last old new count m buffer e same size is_short given ends counted wrong =
    let front = take count buffer in
    let wrong_front : judged kind k front ≡ Err e = ap (λ (s : ErrorKind). judged kind s front) (sym is_short) ∙ ap (λ (n : ℕ). judged kind short (take n buffer)) (sym same) ∙ wrong in
    elim (judged-wrong kind k UnexpectedEof front rest e wrong_front) [
      | inl told ↦ inl (ap (judged kind UnexpectedEof) given ∙ told)
      | inr is ↦ inr (inr record {
        device = record { cause = k; answered = is.answered; counted = counted.0; told = counted.1 };
        came = front;
        taken = given;
        id = is.id;
        filler = is.filler;
      })
    ]

-- the fault of a test
test-fault : (b : Bool) (fault e : GssApiMessageError) (v : Verdict) → v ≡ (if b then Err fault else Ok tt) → v ≡ Err e → fault ≡ e
test-fault true fault e v is wrong = cc (is, wrong)
test-fault false fault e v is wrong = absurd (cc (is, wrong))

-- a wrong id or filler that came
module _ (kind : TokenKind) (after : Option (List ℕ)) (old new : ℕ) (last : Option ErrorKind) (once : FailedAtMostOnce old new) (front : List ℕ) (e : GssApiMessageError)
    (wrong : judged kind UnexpectedEof front ≡ Err e) where
  wrong-told : (fault : GssApiMessageError) → (judged kind UnexpectedEof front ≡ Err fault → TellsRead kind after old new last fault) → fault ≡ e → TellsRead kind after old new last e
  wrong-told fault tells is = subst (TellsRead kind after old new last) is (tells (wrong ∙ ap Err (sym is)))

  id-told : id_judged kind front ≡ Err e → TellsRead kind after old new last e
  id-told id_wrong = wrong-told _ (λ w. (once, front, w)) (test-fault _ _ e _ refl id_wrong)

filler-told : (kind : TokenKind) (after : Option (List ℕ)) (old new : ℕ) (last : Option ErrorKind) (once : FailedAtMostOnce old new) (front : List ℕ) (e : GssApiMessageError)
    → judged kind UnexpectedEof front ≡ Err e → filler_judged kind front ≡ Err e → TellsRead kind after old new last e
filler-told Mic after old new last once front e wrong filler_wrong =
    wrong-told Mic after old new last once front e wrong _ (λ w. (once, front, w)) (test-fault _ _ e _ refl filler_wrong)
filler-told Wrap after old new last once front e wrong filler_wrong =
    wrong-told Wrap after old new last once front e wrong _ (λ w. (once, front, w)) (test-fault _ _ e _ refl filler_wrong)

-- what a refused header tells of any device
pub header-told : (kind : TokenKind) (short : ErrorKind) (after : Option (List ℕ)) (fault last : Option ErrorKind) (old new count m : ℕ) (buffer : List ℕ) (e : GssApiMessageError)
    → m ≡ count → length buffer ≡ 16 → short ≡ unwrap_or fault UnexpectedEof
    → (fault ≡ None → count < length buffer → IsAtEnd after) → IsStop old new last fault
    → judged kind short (take m buffer) ≡ Err e → TellsRead kind after old new last e
header-told kind short after fault last old new count m buffer e same size is_short ends stop wrong =
    let front = take m buffer in
    let once = stopped-once fault last old new stop in
    elim (or_else-err (id_judged kind front) (or_else (filler_judged kind front) (length_judged short front)) e wrong) [
      | inl id_wrong ↦ id-told kind after old new last once front e
          (ap (λ (v : Verdict). or_else v (or_else (filler_judged kind front) (length_judged UnexpectedEof front))) id_wrong) id_wrong
      | inr later ↦ elim (or_else-err (filler_judged kind front) (length_judged short front) e later.1) [
        | inl filler_wrong ↦ filler-told kind after old new last once front e
            (ap (λ (v : Verdict). or_else v (or_else (filler_judged kind front) (length_judged UnexpectedEof front))) later.0
            ∙ ap (λ (v : Verdict). or_else v (length_judged UnexpectedEof front)) filler_wrong) filler_wrong
        | inr last_wrong ↦
            let (is, few) = length-err short front e last_wrong.1 in
            subst (TellsRead kind after old new last) (sym (is ∙ ap IoError is_short))
            (short-stop after fault last old new count (length buffer) stop ends (omega (arith, length-take m buffer)))
      ]
    ]

-- and a refused rest
pub rest-told : (kind : TokenKind) (left after : Option (List ℕ)) (last : Option ErrorKind) (old mid new : ℕ) (e : GssApiMessageError)
    → mid ≡ old → IsRestFault left after mid new last e → TellsRead kind after old new last e
rest-told kind left after last old mid new e same (inl (memory, kept)) = subst (TellsRead kind after old new last) (sym memory) (kept ∙ same)
rest-told kind left after last old mid new e same (inr (device, came, _)) =
    subst (TellsRead kind after old new last) (sym device.answered) (inr (device.counted ∙ ap one_more same, device.told))

-- a refused rest behind a fine header
pub rest-refused : (kind : TokenKind) (left mid_left after : Option (List ℕ)) (last : Option ErrorKind) (old mid new : ℕ) (header : List ℕ) (e : GssApiMessageError)
    → Consumes left mid_left header → judged kind UnexpectedEof header ≡ Ok tt → mid ≡ old → IsRestFault mid_left after mid new last e
    → IfSome left (λ whole. IsRefusal kind whole after old new last e)
rest-refused kind None mid_left after last old mid new header e given fine same fault = tt
rest-refused kind (Some whole) mid_left after last old mid new header e given fine same (inl memory) = inr (inl memory.0)
rest-refused kind (Some whole) mid_left after last old mid new header e given fine same (inr (device, came, behind)) =
    let is = judged-fine kind UnexpectedEof header fine in
    let long = is.long in
    inr (inr record {
      device = subst (λ (n : ℕ). IsDeviceFault n new last e) same device;
      came = header ++ came;
      taken = Consumes-trans (Some whole) mid_left after header came given behind;
      id = id-settled kind header came (omega arith) ∙ is.id;
      filler = filler-settled kind header came (omega arith) ∙ is.filler;
    })

-- what is no refusal of the bytes is an excuse
pub refusal-excuse : (kind : TokenKind) (whole : List ℕ) (after : Option (List ℕ)) (last : Option ErrorKind) (old new : ℕ) (e : GssApiMessageError)
    → judged kind UnexpectedEof whole ≡ Ok tt → IsRefusal kind whole after old new last e → IsExcuse kind whole after old new last e
refusal-excuse kind whole after last old new e fine refusal =
    elim refusal [ inl wrong ↦ absurd (cc (fine, wrong)) | inr excuse ↦ excuse ]
