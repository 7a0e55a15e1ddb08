-- A keytab that is read is laid out, and what is written is a keytab.
use Rattle.std.proofs.Common.{◌≡◌, ◌⊎◌, ℕ, zero, suc, ◌+◌, ◌-◌, ◌%◌, ◌^◌, ◌<◌, ◌≤◌, Bool, true, false, List, [], ◌∷◌, ◌++◌, length, take, drop, Option, None, Some, Result, Ok, Err, nat_lt, nat_eq, if◌then◌else◌, inl, inr, refl, ap, sym, subst, ◌∙◌, append-nil, arith}
use Rattle.std.proofs.lemmas.Bool.Decides.{Decides-eqb}
use Rattle.std.proofs.lemmas.List.{length-take-le, length-drop, drop-take, drop_all}
use Rattle.byte_streams.specs.Numbers.{be16, be16_at}
use Rattle.byte_streams.proofs.NumberLaws.{AreBytes, bytes-cut}
use Rattle.krb_file_formats.specs.Numbers.{be32, be32_at}
use Rattle.krb_file_formats.specs.Entries.{Entry, record_body, kvno_of}
use Rattle.krb_file_formats.specs.Layouts.{Piece, Hole, Held, pieces_bytes, PiecesFit, entries_of, IsEnd, IsKeytab}
use Rattle.krb_file_formats.specs.Reading.{entry_at, size_of, slot_at, held_at, followed, entries_at, version_at, keytab_at}
use Rattle.krb_file_formats.specs.Writing.{written, records_bytes, keytab_bytes, AreWritable}
use Rattle.krb_file_formats.specs.declared.fault.KeytabFault.{KeytabFault}
use Rattle.krb_file_formats.specs.declared.fault.KeytabFault.TheVariants.{Memory}
use Rattle.krb_file_formats.specs.declared.reading.Slot.{Slot}
use Rattle.krb_file_formats.proofs.NumberLaws.{length-be32, be32-first}
use Rattle.krb_file_formats.proofs.PlaceLaws.{enough, below, passes, not-below, are-unequal}
use Rattle.krb_file_formats.proofs.LoopLaws.{next_at}
use Rattle.krb_file_formats.proofs.PieceLaws.{keytab-again}
use Rattle.krb_file_formats.proofs.FoundLaws.{IsAhead, ahead-join, cut-ahead, be16-ahead, be32-ahead, then-ok, if-ok, if-not, as-read, entry-found}

-- the entries that are read from a place on
record ArePieces (octets : List ℕ) (es : List Entry) : Type 0 where
  pub pieces : List Piece
  pub end : List ℕ
  pub bytes : octets ≡ pieces_bytes pieces end
  pub fits : PiecesFit pieces
  pub ends : IsEnd end
  pub entries : entries_of pieces ≡ es

-- the record or hole at a place
abbrev slot_there : ℕ → List ℕ → Slot
slot_there place whole = record { is_hole = nat_lt 2147483647 (be32_at place whole); end = place + 4 + size_of (be32_at place whole) }

pub either : {A E : Type 0} (test : Bool) (r s : Result A E) (a : A) → (if test then r else s) ≡ Ok a → ((test ≡ true) × (r ≡ Ok a)) ⊎ ((test ≡ false) × (s ≡ Ok a))
either true r s a is = inl (refl, is)
either false r s a is = inr (refl, is)

-- what is found at a place: the end, or a record or a hole
slot-found : (place : ℕ) (whole : List ℕ) (found : Option Slot) → AreBytes whole → slot_at place whole ≡ Ok found
    → ((None ≡ found) × IsEnd (drop place whole)) ⊎ ((Some (slot_there place whole) ≡ found) × (place + 4 + size_of (be32_at place whole) ≤ length whole))
slot-found place whole found bytes is =
    elim (either (nat_eq (length whole - place) 0) _ _ found is) [
      | inl (none, made) ↦
          let all : length whole - place ≡ 0 = (Decides-eqb (length whole - place) 0).0 none in
          inl (cc made, inl (drop_all place whole (omega (arith, all))))
      | inr (_, later) ↦
          let (test, next) = if-ok (nat_lt (length whole - place) 4) _ _ found later in
          let four : 4 ≤ length whole - place = enough _ _ test in
          elim (either (nat_eq (be32_at place whole) 0) _ _ found next) [
            | inl (none, made) ↦
                let number = (Decides-eqb (be32_at place whole) 0).0 none in
                inl (cc made, inr (drop (place + 4) whole, (be32-ahead place (place + 4) 0 whole bytes refl (omega (arith, four)) number).rest))
            | inr (_, last) ↦
                let (fits, made) = if-ok (nat_lt (length whole - place - 4) (size_of (be32_at place whole))) _ _ found last in
                let room : size_of (be32_at place whole) ≤ length whole - place - 4 = enough _ _ fits in
                inr (cc made, omega (arith, four, room))
          ]
    ]

sized-hole : (n : ℕ) → nat_lt 2147483647 n ≡ true → n < 2 ^ 32 → (2 ^ 32 - size_of n ≡ n) × (0 < size_of n) × (size_of n ≤ 2 ^ 31)
sized-hole n test fits =
    let above : 2147483647 < n = below _ _ test in
    let is : size_of n ≡ 4294967296 - n = ap (λ (b : Bool). if b then 4294967296 - n else n) test in
    (omega (arith, is, above, fits), omega (arith, is, above, fits), omega (arith, is, above, fits))

sized-record : (n : ℕ) → nat_lt 2147483647 n ≡ false → (size_of n ≡ n) × (n < 2 ^ 31)
sized-record n test =
    let most : n ≤ 2147483647 = enough _ _ test in
    (ap (λ (b : Bool). if b then 4294967296 - n else n) test, omega (arith, most))

-- the octets of the record or hole at a place
abbrev octets_there : ℕ → List ℕ → List ℕ
octets_there place whole = take (size_of (be32_at place whole)) (drop (place + 4) whole)

split : (place : ℕ) (whole : List ℕ) → AreBytes whole → place + 4 + size_of (be32_at place whole) ≤ length whole
    → IsAhead place (place + 4 + size_of (be32_at place whole)) (λ m. be32 (be32_at place whole) ++ (octets_there place whole ++ m))
    ((be32_at place whole < 2 ^ 32) × (length (octets_there place whole) ≡ size_of (be32_at place whole))) whole
split place whole bytes inside =
    let size = size_of (be32_at place whole) in
    ahead-join (be32-ahead place (place + 4) _ whole bytes refl (omega (arith, inside)) refl)
    (cut-ahead (place + 4) (place + 4 + size) size (octets_there place whole) whole refl inside refl
    (length-take-le size (drop (place + 4) whole) (omega (arith, length-drop (place + 4) whole, inside))))

-- one piece more in front
hole-more : (place : ℕ) (fs : List Entry) (whole : List ℕ) → AreBytes whole → nat_lt 2147483647 (be32_at place whole) ≡ true
    → place + 4 + size_of (be32_at place whole) ≤ length whole → ArePieces (drop (place + 4 + size_of (be32_at place whole)) whole) fs → ArePieces (drop place whole) fs
hole-more place fs whole bytes hole inside others =
    let at = split place whole bytes inside in
    let octets = octets_there place whole in
    let long = at.fits.1 in
    let (back, some, fits) = sized-hole (be32_at place whole) hole at.fits.0 in
    let number : be32_at place whole ≡ 2 ^ 32 - length octets = sym back ∙ ap (λ (k : ℕ). 2 ^ 32 - k) (sym long) in
    record {
      pieces = Hole octets ∷ others.pieces;
      end = others.end;
      bytes = at.rest ∙ ap (λ (k : ℕ). be32 k ++ (octets ++ drop (place + 4 + size_of (be32_at place whole)) whole)) number
          ∙ ap (λ (l : List ℕ). be32 (2 ^ 32 - length octets) ++ (octets ++ l)) others.bytes;
      fits = ((subst (λ (k : ℕ). 0 < k) (sym long) some, subst (λ (k : ℕ). k ≤ 2 ^ 31) (sym long) fits), others.fits);
      ends = others.ends;
      entries = others.entries;
    }

record-more : (place : ℕ) (e : Entry) (fs : List Entry) (whole : List ℕ) → AreBytes whole → nat_lt 2147483647 (be32_at place whole) ≡ false
    → place + 4 + size_of (be32_at place whole) ≤ length whole → entry_at (place + 4) (take (place + 4 + size_of (be32_at place whole)) whole) ≡ Ok e
    → ArePieces (drop (place + 4 + size_of (be32_at place whole)) whole) fs → ArePieces (drop place whole) (e ∷ fs)
record-more place e fs whole bytes hole inside is others =
    let at = split place whole bytes inside in
    let size = size_of (be32_at place whole) in
    let (one, fits) = sized-record (be32_at place whole) hole in
    let found = entry-found (place + 4) e (take (place + 4 + size) whole) (bytes-cut whole 0 (place + 4 + size) bytes) is in
    let body = record_body e found.low found.left in
    let own : octets_there place whole ≡ body = sym (drop-take (place + 4) size whole) ∙ found.body in
    let number : be32_at place whole ≡ length body = sym one ∙ sym at.fits.1 ∙ ap length own in
    record {
      pieces = Held e found.low found.left ∷ others.pieces;
      end = others.end;
      bytes = at.rest ∙ ap (λ (k : ℕ). be32 k ++ (octets_there place whole ++ drop (place + 4 + size) whole)) number
          ∙ ap (λ (l : List ℕ). be32 (length body) ++ (l ++ drop (place + 4 + size) whole)) own
          ∙ ap (λ (l : List ℕ). be32 (length body) ++ (body ++ l)) others.bytes;
      fits = (record { entry = found.fits; small = found.small; kvno = found.kvno; size = subst (λ (k : ℕ). k < 2 ^ 31) number fits }, others.fits);
      ends = others.ends;
      entries = ap (λ (l : List Entry). e ∷ l) others.entries;
    }

slot-more : (place : ℕ) (es fs : List Entry) (whole : List ℕ) → AreBytes whole → place + 4 + size_of (be32_at place whole) ≤ length whole
    → held_at (slot_there place whole) place whole ≡ Ok es → ArePieces (drop (place + 4 + size_of (be32_at place whole)) whole) fs → ArePieces (drop place whole) (es ++ fs)
slot-more place es fs whole bytes inside is others =
    elim (either (nat_lt 2147483647 (be32_at place whole)) _ _ es is) [
      | inl (hole, made) ↦ as-read (λ (l : List Entry). ArePieces (drop place whole) (l ++ fs)) [] es made (hole-more place fs whole bytes hole inside others)
      | inr (hole, later) ↦
          let (e, is_e, made) = then-ok (entry_at (place + 4) (take (place + 4 + size_of (be32_at place whole)) whole)) (λ e. Ok (e ∷ [])) es later in
          as-read (λ (l : List Entry). ArePieces (drop place whole) (l ++ fs)) (e ∷ []) es made (record-more place e fs whole bytes hole inside is_e others)
    ]

entries-found : (n place : ℕ) (es : List Entry) (whole : List ℕ) → AreBytes whole → length whole ≤ place + n
    → entries_at n place whole ≡ Ok es → ArePieces (drop place whole) es
entries-found zero place es whole bytes fuel is =
    let none : drop place whole ≡ [] = drop_all place whole (omega (arith, fuel)) in
    as-read (ArePieces (drop place whole)) [] es is record { pieces = []; end = drop place whole; bytes = refl; fits = tt; ends = inl none; entries = refl }
entries-found (suc n) place es whole bytes fuel is =
    let (found, is_found, later) = then-ok (slot_at place whole) (next_at n place whole) es is in
    elim (slot-found place whole found bytes is_found) [
      | inl (none, ends) ↦
          as-read (ArePieces (drop place whole)) [] es (subst (λ (o : Option Slot). next_at n place whole o ≡ Ok es) (sym none) later)
          record { pieces = []; end = drop place whole; bytes = refl; fits = tt; ends = ends; entries = refl }
      | inr (some, inside) ↦
          let next = place + 4 + size_of (be32_at place whole) in
          let told = subst (λ (o : Option Slot). next_at n place whole o ≡ Ok es) (sym some) later in
          let (fs, is_held, last) = then-ok (held_at (slot_there place whole) place whole) (λ xs. followed xs (entries_at n next whole)) es told in
          let (gs, is_gs, made) = then-ok (entries_at n next whole) (λ ys. Ok (fs ++ ys)) es last in
          as-read (ArePieces (drop place whole)) (fs ++ gs) es made
          (slot-more place fs gs whole bytes inside is_held (entries-found n next gs whole bytes (omega (arith, fuel)) is_gs))
    ]

pub keytab-found : (es : List Entry) (whole : List ℕ) → AreBytes whole → keytab_at whole ≡ Ok es → IsKeytab es whole
keytab-found es whole bytes is =
    let (t, is_version, later) = then-ok (version_at whole) (λ _. entries_at (length whole) 2 whole) es is in
    let (test, told) = if-ok (nat_lt (length whole) 2) _ _ t is_version in
    let (version, _) = if-not (nat_eq (be16_at 0 whole) 1282) _ _ t told in
    let ahead = be16-ahead 0 2 1282 whole bytes refl (enough _ _ test) ((Decides-eqb (be16_at 0 whole) 1282).0 version) in
    let all = entries-found (length whole) 2 es whole bytes (omega arith) later in
    record {
      pieces = all.pieces;
      end = all.end;
      bytes = ahead.rest ∙ ap (λ (l : List ℕ). be16 1282 ++ l) all.bytes;
      fits = all.fits;
      ends = all.ends;
      entries = all.entries;
    }

-- the kvno is written twice
kvno-twice : (n : ℕ) → n < 2 ^ 32 → kvno_of (n % 256) (be32 n) ≡ n
kvno-twice n fits =
    let four : length (be32 n) ≡ 4 = length-be32 n in
    let read : be32_at 0 (be32 n) ≡ n = be32-first 0 n [] (be32 n) (sym (append-nil (be32 n))) fits in
    passes (nat_lt (length (be32 n)) 4) _ _ (not-below 4 (length (be32 n)) (omega (arith, four)))
    ∙ ap (λ (k : ℕ). if nat_eq k 0 then n % 256 else k) read ∙ zero-or n
  where
    zero-or : (n : ℕ) → (if nat_eq n 0 then n % 256 else n) ≡ n
    zero-or zero = refl
    zero-or (suc n) = passes (nat_eq (suc n) 0) _ _ (are-unequal (suc n) 0 (omega arith))

-- the records of entries, without holes
abbrev pub held : List Entry → List Piece
held [] = []
held (e ∷ es) = Held e (e.kvno % 256) (be32 e.kvno) ∷ held es

held-bytes : (es : List Entry) → records_bytes es [] ≡ pieces_bytes (held es) []
held-bytes [] = refl
held-bytes (e ∷ es) = ap (λ (l : List ℕ). be32 (length (written e)) ++ (written e ++ l)) (held-bytes es)

held-fits : (es : List Entry) → AreWritable es → PiecesFit (held es)
held-fits [] fits = tt
held-fits (e ∷ es) fits = (
  record { entry = fits.0.fits; small = omega arith; kvno = kvno-twice e.kvno fits.0.kvno; size = fits.0.size },
  held-fits es fits.1,
)

held-entries : (es : List Entry) → entries_of (held es) ≡ es
held-entries [] = refl
held-entries (e ∷ es) = ap (λ (l : List Entry). e ∷ l) (held-entries es)

pub written-laid : (es : List Entry) → AreWritable es → IsKeytab es (keytab_bytes es)
written-laid es fits = record {
  pieces = held es;
  end = [];
  bytes = ap (λ (l : List ℕ). be16 1282 ++ l) (held-bytes es);
  fits = held-fits es fits;
  ends = inl refl;
  entries = held-entries es;
}

pub written-again : (es : List Entry) → AreWritable es → keytab_at (keytab_bytes es) ≡ Ok es
written-again es fits = keytab-again es (keytab_bytes es) (written-laid es fits)

-- octets that are laid out are refused for memory alone
pub refused-keytab : (es : List Entry) (whole : List ℕ) (e : KeytabFault) → IsKeytab es whole → (e ≡ Memory) ⊎ (keytab_at whole ≡ Err e) → e ≡ Memory
refused-keytab es whole e is (inl memory) = memory
refused-keytab es whole e is (inr wrong) = absurd (let again : keytab_at whole ≡ Ok es = keytab-again es whole is in cc (again, wrong))

pub same-entries : (read es : List Entry) (whole : List ℕ) → IsKeytab es whole → keytab_at whole ≡ Ok read → read ≡ es
same-entries read es whole is told = let again : keytab_at whole ≡ Ok es = keytab-again es whole is in cc (again, told)
