-- Lists that are read item by item: those so far, in front of what is left.
use Rattle.std.proofs.Common.{◌≡◌, ℕ, suc, ◌+◌, List, [], ◌∷◌, ◌++◌, length, Option, Some, Result, Ok, Err, refl, ap, ◌∙◌, append_assoc, arith}
use Rattle.krb_file_formats.specs.Entries.{Entry, texts_size}
use Rattle.krb_file_formats.specs.Reading.{and_then, text_at, texts_at, slot_at, held_at, if_more, followed, entries_at}
use Rattle.krb_file_formats.specs.declared.fault.KeytabFault.{KeytabFault}
use Rattle.krb_file_formats.specs.declared.reading.Slot.{Slot}

pub followed-join : {A E : Type 0} (xs ys : List A) (r : Result (List A) E) → followed (xs ++ ys) r ≡ followed xs (followed ys r)
followed-join xs ys (Ok zs) = ap (λ l. Ok l) (append_assoc xs ys zs)
followed-join xs ys (Err e) = refl

-- what is left of texts, by the first of them
pub texts-left : (n m place : ℕ) (front : List ℕ) (text : Result (List ℕ) KeytabFault) → n ≡ suc m → text_at place front ≡ text
    → texts_at n place front ≡ and_then text (λ t. followed (t ∷ []) (texts_at m (place + (2 + length t)) front))
texts-left n m place front text more is =
    ap (λ (k : ℕ). texts_at k place front) more
    ∙ ap (λ (r : Result (List ℕ) KeytabFault). and_then r (λ t. followed (t ∷ []) (texts_at m (place + (2 + length t)) front))) is

-- how many octets texts take, one more among them
pub size-step : (xs : List (List ℕ)) (t : List ℕ) → texts_size (xs ++ t ∷ []) ≡ texts_size xs + (2 + length t)
size-step [] t = omega arith
size-step (x ∷ xs) t = let rest = size-step xs t in omega (arith, rest)

-- what is done at a place, by what is found there
abbrev pub next_at : ℕ → ℕ → List ℕ → Option Slot → Result (List Entry) KeytabFault
next_at n place whole found = if_more found (λ s. and_then (held_at s place whole) (λ es. followed es (entries_at n s.end whole)))

-- what is left of entries, by what is found first
pub entries-left : (n m place : ℕ) (whole : List ℕ) (found : Result (Option Slot) KeytabFault) → n ≡ suc m → slot_at place whole ≡ found
    → entries_at n place whole ≡ and_then found (next_at m place whole)
entries-left n m place whole found more is =
    ap (λ (k : ℕ). entries_at k place whole) more ∙ ap (λ (r : Result (Option Slot) KeytabFault). and_then r (next_at m place whole)) is

-- the same, by the first record or hole
pub held-left : (n m place : ℕ) (slot : Slot) (whole : List ℕ) (held : Result (List Entry) KeytabFault) → n ≡ suc m → slot_at place whole ≡ Ok (Some slot)
    → held_at slot place whole ≡ held → entries_at n place whole ≡ and_then held (λ es. followed es (entries_at m slot.end whole))
held-left n m place slot whole held more is_slot is =
    entries-left n m place whole (Ok (Some slot)) more is_slot
    ∙ ap (λ (r : Result (List Entry) KeytabFault). and_then r (λ es. followed es (entries_at m slot.end whole))) is
