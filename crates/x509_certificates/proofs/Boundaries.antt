-- Texts between boundaries.
use Rattle.std.proofs.Common.{◌≡◌, inr, ⊎_elim, ℕ, ◌+◌, ◌≤◌, ◌<◌, Bool, true, false, List, ◌++◌, length, take, drop, Result, Ok, Err, MatchResult, refl, sym, ap, ◌∙◌, subst, arith}
use Rattle.std.proofs.Common.{length-append, length-drop, drop_at}
use Rattle.std.specs.Bool.{MatchBool}
use Rattle.std.specs.Str.{IsUtf8}
use Rattle.std.specs.Str.Iter.{HasSubslice}
use lib.Seq.{take-append_seam, drop-append_seam}
use Rattle.asn1_der.proofs.Elements.{fronts}
use Rattle.memchr.specs.Find.{OccursAt, Nowhere, NoneBefore}
use Rattle.memchr.proofs.lemmas.MatchLemmas.{OccursAt-from_part, OccursAt-split}
use Rattle.x509_certificates.specs.Pem.{Divides, Encloses, HasNone, IsAbsent, IsDecoded, IsEnded, IsFound, IsNotFound, IsPem, IsUndecoded, begin_of, end_of}
use Rattle.x509_certificates.specs.declared.pem.TheConstants.{BEGIN}
use Rattle.x509_certificates.specs.declared.fault.FileFault.{FileFault}
use Rattle.x509_certificates.specs.declared.fault.FileFault.TheVariants.{NotEnded}
use Rattle.x509_certificates.specs.declared.pem.Between.{Between}
use Rattle.x509_certificates.specs.declared.pem.Found.{Found}
use Rattle.x509_certificates.specs.declared.pem.Label.{Label}

-- what follows a place begins with the boundary, so it stands there
stands : (boundary text rest : List ℕ) (k : ℕ) → k ≤ length text → drop k text ≡ boundary ++ rest → OccursAt text boundary k
stands boundary text rest k within e =
    let size = ap length e ∙ length-append boundary rest in
    OccursAt-from_part text boundary k (omega (arith, size, length-drop k text, within)) (ap (take (length boundary)) e ∙ take-append_seam boundary rest)

-- a boundary that stands at no place is absent
pub absent : (boundary text : List ℕ) → Nowhere (OccursAt text boundary) 0 (length text + 1) → IsAbsent boundary text
absent boundary text none front back e =
    let size = ap length e ∙ length-append front (boundary ++ back) in
    none (length front) (omega arith) (omega (arith, size))
    (stands boundary text back (length front) (omega (arith, size)) (ap (drop (length front)) e ∙ drop-append_seam front (boundary ++ back)))

-- the first place where a boundary stands divides the text
pub divides_at : (boundary needle text front found mid back : List ℕ) (k : ℕ) → needle ≡ boundary → text ≡ front ++ found → length front ≡ k
    → found ≡ mid ++ back → length mid ≡ length needle → NoneBefore (OccursAt text needle) 0 (length text + 1) k → OccursAt text needle k
    → Divides boundary text front back
divides_at boundary needle text front found mid back k same is size also width before here =
    let within : k ≤ length text = omega (arith, before.high) in
    let behind : drop k text ≡ found = ap (drop k) is ∙ drop_at front found k size in
    let texts : mid ++ back ≡ needle ++ drop (k + length needle) text = sym also ∙ sym behind ∙ OccursAt-split text needle k here in
    let middle : mid ≡ needle = (fronts mid needle back (drop (k + length needle) text) width texts).0 in
    subst (λ (b : List ℕ). Divides b text front back) same (record {
      is = is ∙ ap (λ l. front ++ l) (also ∙ ap (λ l. l ++ back) middle);
      first = λ i below rest e.
          let early : i < k = omega (arith, below, size) in
          before.before i (omega arith) early (stands needle text rest i (omega (arith, early, within)) e);
    })

-- where a boundary divides a text, the text has it
pub has : {boundary text front back : List ℕ} → Divides boundary text front back → HasSubslice text boundary
has {boundary} {text} {front} {back} parts = (front, back, parts.is)

-- and where it is absent, the text hasn't
pub has_none : (boundary text : List ℕ) → IsAbsent boundary text → HasSubslice text boundary → ⊥
has_none boundary text none (front, back, e) = none front back e

-- without a BEGIN line, text alone is PEM
pub by_text : (file : List ℕ) (r : Bool) → IsAbsent BEGIN.now file → MatchBool r (IsUtf8 file) (IsUtf8 file → ⊥) → MatchBool r (IsPem file) (IsPem file → ⊥)
by_text file true none h = inr h
by_text file false none h = ⊎_elim (has_none BEGIN.now file none) h

-- the text behind a boundary encloses a body where a boundary ends it
pub encloses : (label : Label) (text front rest begin : List ℕ) (r : Result Between FileFault) → begin ≡ begin_of label → Divides begin text front rest
    → MatchResult r (λ found. (found.place ≡ length front) × IsEnded label rest found.body.now) (λ fault. (fault ≡ NotEnded (length front)) × IsAbsent (end_of label) rest)
    → MatchResult r (λ found. Encloses label text found.place found.body.now) (HasNone label text)
encloses label text front rest begin (Ok found) is divides h =
    record { front = front; rest = rest; begins = subst (λ b. Divides b text front rest) is divides; ends = h.1; placed = h.0 }
encloses label text front rest begin (Err fault) is divides h =
    subst (HasNone label text) (sym h.0) (front, rest, subst (λ b. Divides b text front rest) is divides, h.1, refl)

-- the DER is that which the boundaries of a label enclose
pub found_under : (label : Label) (text : List ℕ) (enclosed : Between) (r : Result Found FileFault) → Encloses label text enclosed.place enclosed.body.now
    → MatchResult r (λ found. (found.place ≡ enclosed.place) × IsDecoded enclosed.body.now found.der.items) (IsUndecoded enclosed.place enclosed.body.now)
    → MatchResult r (IsFound label text) (IsNotFound label text)
found_under label text enclosed (Ok found) encloses h =
    record { body = enclosed.body.now; encloses = subst (λ place. Encloses label text place enclosed.body.now) (sym h.0) encloses; decoded = h.1 }
found_under label text enclosed (Err fault) encloses h = inr (enclosed.place, enclosed.body.now, encloses, h)
