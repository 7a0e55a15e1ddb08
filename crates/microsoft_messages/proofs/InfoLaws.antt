-- One row of the table, read from a device and written to one.
use Rattle.std.proofs.Common.{◌≡◌, ℕ, ◌+◌, ◌-◌, ◌<◌, ◌≤◌, List, [], ◌++◌, length, take, Option, None, Some, IfSome, Result, Ok, Err, ◌⊎◌, inl, inr, refl, ap, sym, subst, ◌∙◌, append-nil, arith}
use Rattle.std.proofs.lemmas.Bool.{cases_lt}
use Rattle.std.proofs.lemmas.List.{length-take, take_all, take_at}
use Rattle.std.proofs.Math.Seq.{take-append-add}
use Rattle.std.specs.Io.KnownBytes.{Consumes, IsAtEnd}
use Rattle.std.specs.declared.io.ErrorKind.{ErrorKind}
use Rattle.byte_streams.specs.Parts.{put_all, IsLaidOut, AreInside}
use Rattle.byte_streams.specs.Stops.{IsStop}
use Rattle.byte_streams.proofs.PartLaws.{put_all-laid, length-put_all, order-apart}
use Rattle.byte_streams.proofs.NumberLaws.{length-le32, length-le64}
use Rattle.microsoft_messages.specs.Buffers.{info_parts, IsInfo, FitsInfo}
use Rattle.microsoft_messages.specs.Kinds.{kind_number}
use Rattle.microsoft_messages.specs.PacReading.{info_at}
use Rattle.microsoft_messages.specs.Refusals.{IsRowBroken, IsRowRefusal}
use Rattle.microsoft_messages.specs.declared.pac.info.PacInfoBuffer.{PacInfoBuffer}
use Rattle.microsoft_messages.specs.declared.pac.error.PacError.{PacError}
use Rattle.microsoft_messages.specs.declared.pac.error.PacError.TheVariants.{IoError}
use Rattle.microsoft_messages.proofs.OnlyLaws.{info-only}
use Rattle.microsoft_messages.proofs.PacReadingLaws.{Extends, info-extends}

-- what is put at the front of sixteen bytes is a row
pub info-laid : (info : PacInfoBuffer) (whole : List ℕ) → length whole ≡ 16 → IsInfo info (put_all (info_parts 0 info) whole)
info-laid info whole size =
    let one = length-le32 (kind_number info.ul_type) in
    let two = length-le32 info.cb_buffer_size in
    let three = length-le64 info.offset in
    let inside : AreInside (length whole) (info_parts 0 info) = (omega arith, (omega arith, (omega arith, tt))) in
    record {
      parts = put_all-laid (info_parts 0 info) whole inside (order-apart 0 (info_parts 0 info) (omega arith, (omega arith, (omega arith, tt))));
      size = length-put_all (info_parts 0 info) whole inside ∙ size;
    }

-- sixteen bytes at most came, and they are the front of what was left
came-front : (front rest : List ℕ) → length front ≤ 16 → take 16 (front ++ rest) ≡ front ++ take (16 - length front) rest
came-front front rest few =
    let all : length front + (16 - length front) ≡ 16 = omega arith in
    ap (λ (n : ℕ). take n (front ++ rest)) (sym all) ∙ take-append-add front rest (16 - length front)

-- all that came, where the device didn't fail
came-all : (front rest : List ℕ) → length front ≤ 16 → (length front < 16 → rest ≡ []) → take 16 (front ++ rest) ≡ front
came-all front rest few ends =
    elim (cases_lt (length front) 16) [
      | inl fewer ↦ ap (λ (l : List ℕ). take 16 (front ++ l)) (ends fewer) ∙ ap (take 16) (append-nil front) ∙ take_all 16 front few
      | inr full ↦ take_at front rest 16 (omega arith)
    ]

pub info-refused : (left after : Option (List ℕ)) (fault last : Option ErrorKind) (old new count m : ℕ) (buffer : List ℕ) (e : PacError)
    → m ≡ count → length buffer ≡ 16 → count ≤ length buffer
    → Consumes left after (take count buffer) → (fault ≡ None → count < length buffer → IsAtEnd after) → IsStop old new last fault
    → info_at fault 0 (take m buffer) ≡ Err e
    → IfSome left (λ bytes. IsRowRefusal bytes after old new last e)
info-refused None after fault last old new count m buffer e same size within given ends stopped wrong = tt
info-refused (Some bytes) None fault last old new count m buffer e same size within given ends stopped wrong = absurd given
info-refused (Some bytes) (Some rest) None last old new count m buffer e same size within given ends stopped wrong =
    let front = take count buffer in
    let few : length front ≤ 16 = omega (arith, length-take count buffer) in
    let front_is : take 16 (front ++ rest) ≡ front = came-all front rest few (λ fewer. ends refl (omega (arith, length-take count buffer))) in
    inl (ap (λ (l : List ℕ). info_at None 0 (take 16 l)) given ∙ ap (info_at None 0) front_is
    ∙ ap (λ (n : ℕ). info_at None 0 (take n buffer)) (sym same) ∙ wrong)
info-refused (Some bytes) (Some rest) (Some k) last old new count m buffer e same size within given ends stopped wrong =
    let front = take count buffer in
    let few : length front ≤ 16 = omega (arith, length-take count buffer) in
    let wrong_front : info_at (Some k) 0 front ≡ Err e = ap (λ (n : ℕ). info_at (Some k) 0 (take n buffer)) (sym same) ∙ wrong in
    let more = take (16 - length front) rest in
    let extends : (e ≡ IoError k) ⊎ (info_at None 0 (front ++ more) ≡ Err e) =
    subst (λ (r : Result PacInfoBuffer PacError). Extends k r (info_at None 0 (front ++ more))) wrong_front (info-extends k 0 front more) in
    elim extends [
      | inl cut ↦ inr record {
        device = record { cause = k; answered = cut; counted = stopped.0; told = stopped.1 };
        came = front;
        taken = given;
        fine = wrong_front;
      }
      | inr told ↦ inl (ap (λ (l : List ℕ). info_at None 0 (take 16 l)) given ∙ ap (info_at None 0) (came-front front rest few) ∙ told)
    ]

-- a row that is laid out in the sixteen bytes, and what was refused
pub refused-info : (left after : Option (List ℕ)) (old new : ℕ) (last : Option ErrorKind) (e : PacError)
    → IfSome left (λ bytes. IsRowRefusal bytes after old new last e)
    → IfSome left (λ bytes. (info : PacInfoBuffer) → FitsInfo info → IsInfo info (take 16 bytes) → IsRowBroken bytes after old new last e)
refused-info None after old new last e refused = tt
refused-info (Some bytes) after old new last e refused = λ info fits is.
    let read : info_at None 0 (take 16 bytes) ≡ Ok info =
    info-only 0 info (take 16 bytes) fits.size fits.offset is.parts.0 is.parts.1.0 is.parts.1.1.0 in
    elim refused [ inl wrong ↦ absurd (cc (wrong, read)) | inr failed ↦ failed ]

-- the row that was read is the one that is laid out there
pub read-info : (left after : Option (List ℕ)) (fault : Option ErrorKind) (count m : ℕ) (buffer : List ℕ) (read : PacInfoBuffer)
    → m ≡ count → length buffer ≡ 16 → 16 ≤ length (take m buffer) → IfSome fault (λ _. count < length buffer)
    → Consumes left after (take count buffer) → info_at fault 0 (take m buffer) ≡ Ok read
    → IfSome left (λ bytes. (info : PacInfoBuffer) → FitsInfo info → IsInfo info (take 16 bytes) → read ≡ info)
read-info None after fault count m buffer read same size full short given is = tt
read-info (Some bytes) None fault count m buffer read same size full short given is = absurd given
read-info (Some bytes) (Some rest) (Some k) count m buffer read same size full short given is =
    absurd (omega (arith, length-take m buffer))
read-info (Some bytes) (Some rest) None count m buffer read same size full short given is = λ info fits laid.
    let front = take count buffer in
    let long : length front ≡ 16 = omega (arith, length-take count buffer, length-take m buffer) in
    let front_is : take 16 bytes ≡ front = ap (take 16) given ∙ take_at front rest 16 long in
    let told : info_at None 0 (take 16 bytes) ≡ Ok info =
    info-only 0 info (take 16 bytes) fits.size fits.offset laid.parts.0 laid.parts.1.0 laid.parts.1.1.0 in
    let here : info_at None 0 front ≡ Ok read = ap (λ (n : ℕ). info_at None 0 (take n buffer)) (sym same) ∙ is in
    let both : info_at None 0 (take 16 bytes) ≡ Ok read = ap (info_at None 0) front_is ∙ here in
    cc (told, both)

-- the row that was read is in what was taken
pub found-info : (left after : Option (List ℕ)) (count m : ℕ) (buffer : List ℕ) (info : PacInfoBuffer) → m ≡ count → length buffer ≡ 16
    → Consumes left after (take count buffer) → 16 ≤ length (take m buffer) → IsLaidOut (info_parts 0 info) (take m buffer)
    → (whole : List ℕ) × IsInfo info whole × Consumes left after whole
found-info left after count m buffer info same size given full laid = (
  take count buffer,
  record {
    parts = subst (λ (n : ℕ). IsLaidOut (info_parts 0 info) (take n buffer)) same laid;
    size = omega (arith, length-take count buffer, length-take m buffer);
  },
  given,
)
