-- A keytab that is laid out is read.
use Rattle.std.proofs.Common.{◌≡◌, ℕ, zero, suc, ◌+◌, ◌-◌, ◌^◌, ◌<◌, ◌≤◌, Bool, true, false, List, [], ◌∷◌, ◌++◌, length, take, None, Some, Result, Ok, nat_lt, nat_eq, inl, inr, refl, ap, subst, ◌∙◌, arith}
use Rattle.std.proofs.lemmas.List.{length-append}
use Rattle.byte_streams.specs.Numbers.{be16, be16_at}
use Rattle.byte_streams.proofs.NumberLaws.{length-be16}
use Rattle.krb_file_formats.specs.Numbers.{be32, be32_at}
use Rattle.krb_file_formats.specs.Entries.{Entry, record_body, texts_bytes, fixed_bytes, counted}
use Rattle.krb_file_formats.specs.Layouts.{Piece, Hole, Held, pieces_bytes, PiecesFit, entries_of, IsEnd, IsKeytab}
use Rattle.krb_file_formats.specs.Reading.{and_then, entry_at, size_of, slot_at, followed, entries_at, version_at, keytab_at}
use Rattle.krb_file_formats.specs.declared.fault.KeytabFault.{KeytabFault}
use Rattle.krb_file_formats.specs.declared.reading.Slot.{Slot}
use Rattle.krb_file_formats.proofs.NumberLaws.{length-be32, be16-first, be32-first}
use Rattle.krb_file_formats.proofs.PlaceLaws.{IsFrom, behind, left, cut, passes, holds, not-below, is-below, are-equal, are-unequal}
use Rattle.krb_file_formats.proofs.LoopLaws.{entries-left, held-left}
use Rattle.krb_file_formats.proofs.AgainLaws.{step, behind-four, entry-again}

abbrev slot_of : Bool → ℕ → Slot
slot_of a b = record { is_hole = a; end = b }

slot-same : (a : Bool) (b p : ℕ) (c : Bool) → a ≡ c → b ≡ p → slot_of a b ≡ slot_of c p
slot-same a b p c is_a is_b = λ i. record { is_hole = is_a i; end = is_b i }

-- a size that isn't 0, behind which so many octets follow
pub slot-again : (place n size : ℕ) (hole : Bool) (bytes more whole : List ℕ) → IsFrom place (be32 n ++ (bytes ++ more)) whole → n < 2 ^ 32 → 0 < n
    → size_of n ≡ size → length bytes ≡ size → nat_lt 2147483647 n ≡ hole
    → slot_at place whole ≡ Ok (Some (record { is_hole = hole; end = place + 4 + size }))
slot-again place n size hole bytes more whole from fits some is long sign =
    let read : be32_at place whole ≡ n = be32-first place n (bytes ++ more) whole from.rest fits in
    let all = left place (be32 n ++ (bytes ++ more)) whole from in
    let four = length-be32 n in
    let joined = length-append (be32 n) (bytes ++ more) in
    let also = length-append bytes more in
    let read_size : size_of (be32_at place whole) ≡ size = ap size_of read ∙ is in
    passes (nat_eq (length whole - place) 0) _ _ (are-unequal (length whole - place) 0 (omega (arith, all, four, joined)))
    ∙ passes (nat_lt (length whole - place) 4) _ _ (not-below 4 (length whole - place) (omega (arith, all, four, joined)))
    ∙ passes (nat_eq (be32_at place whole) 0) _ _ (are-unequal (be32_at place whole) 0 (omega (arith, read, some)))
    ∙ passes (nat_lt (length whole - place - 4) (size_of (be32_at place whole))) _ _
    (not-below (size_of (be32_at place whole)) (length whole - place - 4) (omega (arith, all, four, joined, also, read_size, long)))
    ∙ ap (λ (s : Slot). Ok (Some s)) (slot-same _ _ _ _ (ap (nat_lt 2147483647) read ∙ sign) (ap (λ (k : ℕ). place + 4 + k) read_size))

-- the end of the file, or a size of 0
pub slot-ends : (place : ℕ) (end whole : List ℕ) → IsFrom place end whole → IsEnd end → slot_at place whole ≡ Ok None
slot-ends place end whole from (inl none) =
    holds (nat_eq (length whole - place) 0) _ _ (are-equal (length whole - place) 0 (left place end whole from ∙ ap length none))
slot-ends place end whole from (inr (rest, is)) =
    let begins : IsFrom place (be32 0 ++ rest) whole = subst (λ (l : List ℕ). IsFrom place l whole) is from in
    let read : be32_at place whole ≡ 0 = be32-first place 0 rest whole begins.rest (omega arith) in
    let all = left place (be32 0 ++ rest) whole begins in
    let four = length-be32 0 in
    let joined = length-append (be32 0) rest in
    passes (nat_eq (length whole - place) 0) _ _ (are-unequal (length whole - place) 0 (omega (arith, all, four, joined)))
    ∙ passes (nat_lt (length whole - place) 4) _ _ (not-below 4 (length whole - place) (omega (arith, all, four, joined)))
    ∙ holds (nat_eq (be32_at place whole) 0) _ _ (are-equal (be32_at place whole) 0 read)

-- no record and no hole is left
last-step : (n place : ℕ) (whole : List ℕ) → slot_at place whole ≡ Ok None → entries_at n place whole ≡ Ok []
last-step zero place whole is = refl
last-step (suc n) place whole is = entries-left (suc n) n place whole (Ok None) refl is

negative : (k : ℕ) → 0 < k → k ≤ 2 ^ 31 → (nat_lt 2147483647 (2 ^ 32 - k) ≡ true) × (size_of (2 ^ 32 - k) ≡ k)
negative k some fits =
    let is : nat_lt 2147483647 (2 ^ 32 - k) ≡ true = is-below (2 ^ 32 - k) 2147483647 (omega (arith, some, fits)) in
    (is, holds (nat_lt 2147483647 (2 ^ 32 - k)) _ _ is ∙ omega (arith, fits))

positive : (k : ℕ) → k < 2 ^ 31 → (nat_lt 2147483647 k ≡ false) × (size_of k ≡ k)
positive k fits =
    let is : nat_lt 2147483647 k ≡ false = not-below k 2147483647 (omega (arith, fits)) in
    (is, passes (nat_lt 2147483647 k) _ _ is)

-- a record has octets
some-octets : (e : Entry) (low : ℕ) (rest : List ℕ) → 0 < length (record_body e low rest)
some-octets e low rest =
    let more = counted e.realm (texts_bytes e.components (fixed_bytes e low (counted e.key rest))) in
    omega (arith, length-append (be16 (length e.components)) more, length-be16 (length e.components))

pub pieces-again : (ps : List Piece) (n place : ℕ) (end whole : List ℕ) → IsFrom place (pieces_bytes ps end) whole → PiecesFit ps → IsEnd end
    → length whole ≤ place + n → entries_at n place whole ≡ Ok (entries_of ps)
pieces-again [] n place end whole from fits ends fuel = last-step n place whole (slot-ends place end whole from ends)
pieces-again (Hole octets ∷ ps) zero place end whole from fits ends fuel =
    absurd (omega (arith, from.inside, fuel, length-append (be32 (2 ^ 32 - length octets)) (octets ++ pieces_bytes ps end), length-be32 (2 ^ 32 - length octets)))
pieces-again (Held e low rest ∷ ps) zero place end whole from fits ends fuel =
    absurd (omega (arith, from.inside, fuel, length-append (be32 (length (record_body e low rest))) (record_body e low rest ++ pieces_bytes ps end), length-be32 (length (record_body e low rest))))
pieces-again (Hole octets ∷ ps) (suc n) place end whole from fits ends fuel =
    let size = length octets in
    let sign = negative size fits.0.0 fits.0.1 in
    let at_octets = behind-four place (2 ^ 32 - size) (octets ++ pieces_bytes ps end) whole from in
    let next = behind (place + 4) (place + 4 + size) octets (pieces_bytes ps end) whole refl at_octets in
    held-left (suc n) n place (record { is_hole = true; end = place + 4 + size }) whole (Ok []) refl
    (slot-again place (2 ^ 32 - size) size true octets (pieces_bytes ps end) whole from (omega (arith, fits.0.0)) (omega (arith, fits.0.1)) sign.1 refl sign.0)
    refl
    ∙ ap (followed []) (pieces-again ps n (place + 4 + size) end whole next fits.1 ends (omega (arith, fuel)))
pieces-again (Held e low rest ∷ ps) (suc n) place end whole from fits ends fuel =
    let body = record_body e low rest in
    let size = length body in
    let fit = fits.0 in
    let sign = positive size fit.size in
    let at_body = behind-four place size (body ++ pieces_bytes ps end) whole from in
    let next = behind (place + 4) (place + 4 + size) body (pieces_bytes ps end) whole refl at_body in
    let own = cut (place + 4) (place + 4 + size) body (pieces_bytes ps end) whole refl at_body in
    let held : entry_at (place + 4) (take (place + 4 + size) whole) ≡ Ok e = entry-again (place + 4) e low rest (take (place + 4 + size) whole) own fit.entry fit.kvno in
    held-left (suc n) n place (record { is_hole = false; end = place + 4 + size }) whole (Ok (e ∷ [])) refl
    (slot-again place size size false body (pieces_bytes ps end) whole from (omega (arith, fit.size)) (some-octets e low rest) sign.1 refl sign.0)
    (ap (λ (r : Result Entry KeytabFault). and_then r (λ x. Ok (x ∷ []))) held)
    ∙ ap (followed (e ∷ [])) (pieces-again ps n (place + 4 + size) end whole next fits.1 ends (omega (arith, fuel)))

pub keytab-again : (es : List Entry) (whole : List ℕ) → IsKeytab es whole → keytab_at whole ≡ Ok es
keytab-again es whole is =
    let rest = pieces_bytes is.pieces is.end in
    let size = ap length is.bytes in
    let begins : IsFrom 0 (be16 1282 ++ rest) whole = record { rest = is.bytes; inside = omega (arith, size) } in
    let read : be16_at 0 whole ≡ 1282 = be16-first 0 1282 rest whole is.bytes (omega arith) in
    let two = length-be16 1282 in
    let long : 2 ≤ length whole = omega (arith, ap length is.bytes, length-append (be16 1282) rest, two) in
    let version : version_at whole ≡ Ok tt =
    passes (nat_lt (length whole) 2) _ _ (not-below 2 (length whole) long) ∙ holds (nat_eq (be16_at 0 whole) 1282) _ _ (are-equal (be16_at 0 whole) 1282 read) in
    step (version_at whole) tt (λ _. entries_at (length whole) 2 whole) version
    ∙ pieces-again is.pieces (length whole) 2 is.end whole (behind 0 2 (be16 1282) rest whole (omega (arith, two)) begins) is.fits is.ends (omega arith)
    ∙ ap (λ (l : List Entry). Ok l) is.entries

-- octets are the keytab of one list alone
pub one-keytab : (es fs : List Entry) (whole : List ℕ) → IsKeytab es whole → IsKeytab fs whole → es ≡ fs
one-keytab es fs whole is also =
    let one : keytab_at whole ≡ Ok es = keytab-again es whole is in
    let other : keytab_at whole ≡ Ok fs = keytab-again fs whole also in
    cc (one, other)
