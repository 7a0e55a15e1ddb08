-- What a check's answer says, taken further.
use Rattle.std.specs.declared.io.ErrorKind.{ErrorKind}
use Rattle.std.proofs.Common.{◌≡◌, ◌≢◌, ℕ, ◌+◌, ◌-◌, ◌<◌, List, length, Option, None, Some, Result, Ok, Err, Bool, true, false, MatchBool, nat_eq, nat_lt, if◌then◌else◌, inl, inr, refl, sym, ap, subst, ◌∙◌}
use Rattle.std.specs.Cmp.Lexicographic.{pointwise}
use Rattle.byte_streams.specs.Numbers.{le32_at}
use Rattle.cdb.specs.declared.fault.Fault.{Fault}
use Rattle.cdb.specs.declared.fault.Fault.TheVariants.{Failed, Damaged, Long}
use Rattle.cdb.specs.declared.format.TheConstants.{PAIR_SIZE}
use Rattle.cdb.specs.declared.records.Record.{Record}
use Rattle.cdb.specs.Check.{are_data, has_data, IsCutKey, IsCutRecord, IsOtherKey, IsOtherRecord, IsSoundKey, IsSoundRecord, Judges}
use Rattle.cdb.specs.Find.{looked_up, pair_at, part_at}
use Rattle.cdb.specs.Reading.{◌>>=◌, Fails, Gives}
use Rattle.cdb.specs.Records.{Holds, IsRefused, IsUnheld}
use Rattle.cdb.proofs.Answering.{itself}
use Rattle.cdb.proofs.Sound.{same_list}

module _ (fails : ErrorKind → Type 0) where
  pub judged : (result : Result Bool Fault) (Y N D L OtherY OtherN OtherD OtherL : Type 0) → Judges fails result Y N D L → (Y → OtherY) → (N → OtherN) → (D → OtherD) → (L → OtherL) → Judges fails result OtherY OtherN OtherD OtherL
  judged (Ok true) Y N D L OtherY OtherN OtherD OtherL h y n d l = y h
  judged (Ok false) Y N D L OtherY OtherN OtherD OtherL h y n d l = n h
  judged (Err (Failed kind)) Y N D L OtherY OtherN OtherD OtherL h y n d l = h
  judged (Err Damaged) Y N D L OtherY OtherN OtherD OtherL h y n d l = d h
  judged (Err Long) Y N D L OtherY OtherN OtherD OtherL h y n d l = l h

  -- a refusal of one step is the whole's
  pub judged_err : (fault : Fault) (Y N D L OtherY OtherN OtherD OtherL : Type 0) → Judges fails (Err fault) Y N D L → (D → OtherD) → (L → OtherL) → Judges fails (Err fault) OtherY OtherN OtherD OtherL
  judged_err (Failed kind) Y N D L OtherY OtherN OtherD OtherL h d l = h
  judged_err Damaged Y N D L OtherY OtherN OtherD OtherL h d l = d h
  judged_err Long Y N D L OtherY OtherN OtherD OtherL h d l = l h

  pub judged_yes : (is : Bool) (Y N D L : Type 0) → Judges fails (Ok is) Y N D L → is ≡ true → Y
  judged_yes true Y N D L h e = h
  judged_yes false Y N D L h e = absurd (cc (e))

  pub judged_no : (is : Bool) (Y N D L : Type 0) → Judges fails (Ok is) Y N D L → is ≡ false → N
  judged_no true Y N D L h e = absurd (cc (e))
  judged_no false Y N D L h e = h

  pub chosen : (is : Bool) (P Q Y N D L : Type 0) → MatchBool is P Q → (P → Y) → (Q → N) → Judges fails (Ok is) Y N D L
  chosen true P Q Y N D L h y n = y h
  chosen false P Q Y N D L h y n = n h

  -- a refusal of a step that the file's octets decide
  pub refused : {X : Type 0} (fault : Fault) (said : Result X Fault) (Y N D L : Type 0) → Fails fails fault said → (said ≡ Err Damaged → D) → (said ≡ Err Long → L) → Judges fails (Err fault) Y N D L
  refused (Failed kind) said Y N D L h d l = h
  refused Damaged said Y N D L h d l = d h
  refused Long said Y N D L h d l = l h

-- no read of octets is too long
part_never_long : (position size : ℕ) (bytes : List ℕ) → part_at position size bytes ≡ Err Long → ⊥
unfolding part_at
part_never_long position size bytes e = by (nat_lt (length bytes) (position + size)) _ e
  where
    by : (short : Bool) (part : List ℕ) → (if short then Err Damaged else Ok part) ≡ Err Long → ⊥
    by true part e = absurd (cc (e))
    by false part e = absurd (cc (e))

-- nor one of a pair
abbrev numbers_of : List ℕ → Result (ℕ × ℕ) Fault
numbers_of octets = Ok (le32_at 0 octets, le32_at 4 octets)

pair_of : (part : Result (List ℕ) Fault) → (part >>= numbers_of) ≡ Err Long → part ≡ Err Long
pair_of (Ok octets) e = absurd (cc (e))
pair_of (Err Damaged) e = absurd (cc (e))
pair_of (Err (Failed kind)) e = absurd (cc (e))
pair_of (Err Long) e = refl

pub pair_never_long : (position : ℕ) (bytes : List ℕ) → pair_at position bytes ≡ Err Long → ⊥
unfolding pair_at
pair_never_long position bytes e = part_never_long position PAIR_SIZE bytes (pair_of (part_at position PAIR_SIZE bytes) e)

pub key_never_long : (position size : ℕ) (bytes : List ℕ) → part_at position size bytes ≡ Err Long → ⊥
key_never_long = part_never_long

-- a record, of which the key was judged
pub record_judged : (fails : ErrorKind → Type 0) (has lacks : List ℕ → Type 0) (result : Result Bool Fault) (bytes : List ℕ) (at key_size content position size : ℕ)
    → pair_at at bytes ≡ Ok (key_size, content) → position ≡ at + PAIR_SIZE → size ≡ key_size
    → Judges fails result (IsSoundKey has bytes position size) (IsOtherKey lacks bytes position size) (IsCutKey bytes position size) ⊥
    → Judges fails result (IsSoundRecord has bytes at) (IsOtherRecord lacks bytes at) (IsCutRecord bytes at) ⊥
record_judged fails has lacks result bytes at key_size content position size sizes places sized h =
    let own : Judges fails result (IsSoundKey has bytes (at + PAIR_SIZE) key_size) (IsOtherKey lacks bytes (at + PAIR_SIZE) key_size) (IsCutKey bytes (at + PAIR_SIZE) key_size) ⊥
    = subst (λ n. Judges fails result (IsSoundKey has bytes (at + PAIR_SIZE) n) (IsOtherKey lacks bytes (at + PAIR_SIZE) n) (IsCutKey bytes (at + PAIR_SIZE) n) ⊥) sized
    (subst (λ p. Judges fails result (IsSoundKey has bytes p size) (IsOtherKey lacks bytes p size) (IsCutKey bytes p size) ⊥) places h) in
    judged fails result (IsSoundKey has bytes (at + PAIR_SIZE) key_size) (IsOtherKey lacks bytes (at + PAIR_SIZE) key_size) (IsCutKey bytes (at + PAIR_SIZE) key_size) ⊥
    (IsSoundRecord has bytes at) (IsOtherRecord lacks bytes at) (IsCutRecord bytes at) ⊥ own
    (λ sound. ((key_size, content), sizes, sound)) (λ other. ((key_size, content), sizes, inr other)) (λ cut. inr ((key_size, content), sizes, cut)) (λ long. long)

-- whether a look-up has the data
one_judgement : (a b : Bool) (result : Result Bool Fault) → result ≡ Ok a → result ≡ Ok b → a ≡ b
one_judgement a b result first second = cc (first, second)

other_data : (found content : List ℕ) → pointwise nat_eq found content ≡ false → Some found ≡ Some content → ⊥
other_data found content differs same = let is : found ≡ content = cc (same) in itself found content is differs

held : (fails : ErrorKind → Type 0) (content : List ℕ) (result : Result Bool Fault) (said : Result (Option (List ℕ)) Fault)
    → Gives fails result (said >>= λ found. Ok (are_data content found))
    → Judges fails result (said ≡ Ok (Some content)) ((found : Option (List ℕ)) × (said ≡ Ok found) × (found ≢ Some content)) (said ≡ Err Damaged) (said ≡ Err Long)
held fails content (Err (Failed kind)) said h = h
held fails content (Err Damaged) (Ok found) h = absurd (cc (h))
held fails content (Err Damaged) (Err fault) h = let is : fault ≡ Damaged = cc (h) in ap (λ f. Err f) is
held fails content (Err Long) (Ok found) h = absurd (cc (h))
held fails content (Err Long) (Err fault) h = let is : fault ≡ Long = cc (h) in ap (λ f. Err f) is
held fails content (Ok true) (Err fault) h = absurd (cc (h))
held fails content (Ok true) (Ok None) h = absurd (cc (h))
held fails content (Ok true) (Ok (Some found)) h =
    let own : pointwise nat_eq found content ≡ true = one_judgement (pointwise nat_eq found content) true (Ok (pointwise nat_eq found content)) refl h in
    ap (λ (one : List ℕ). Ok (Some one)) (same_list found content own)
held fails content (Ok false) (Err fault) h = absurd (cc (h))
held fails content (Ok false) (Ok None) h = (None, refl, λ e. absurd (cc (e)))
held fails content (Ok false) (Ok (Some found)) h =
    let own : pointwise nat_eq found content ≡ false = one_judgement (pointwise nat_eq found content) false (Ok (pointwise nat_eq found content)) refl h in
    (Some found, refl, other_data found content own)

pub data_judged : (fails : ErrorKind → Type 0) (room : ℕ) (bytes key content : List ℕ) (result : Result Bool Fault) → Gives fails result (has_data room bytes key content)
    → Judges fails result (looked_up room bytes key ≡ Ok (Some content)) ((found : Option (List ℕ)) × (looked_up room bytes key ≡ Ok found) × (found ≢ Some content))
    (looked_up room bytes key ≡ Err Damaged) (looked_up room bytes key ≡ Err Long)
unfolding has_data
data_judged fails room bytes key content result h = held fails content result (looked_up room bytes key) h

pub record_held : (fails : ErrorKind → Type 0) (room : ℕ) (bytes key content : List ℕ) (r : Record) (result : Result Bool Fault) → key ≡ r.key.items → content ≡ r.content.items
    → Gives fails result (has_data room bytes key content)
    → Judges fails result (Holds room bytes r) (IsUnheld room bytes r) (IsRefused Damaged room bytes r) (IsRefused Long room bytes r)
record_held fails room bytes key content r result key_is content_is h =
    let own : Gives fails result (has_data room bytes r.key.items r.content.items)
    = subst (λ k. Gives fails result (has_data room bytes k r.content.items)) key_is (subst (λ c. Gives fails result (has_data room bytes key c)) content_is h) in
    judged fails result (looked_up room bytes r.key.items ≡ Ok (Some r.content.items))
    ((found : Option (List ℕ)) × (looked_up room bytes r.key.items ≡ Ok found) × (found ≢ Some r.content.items))
    (looked_up room bytes r.key.items ≡ Err Damaged) (looked_up room bytes r.key.items ≡ Err Long)
    (Holds room bytes r) (IsUnheld room bytes r) (IsRefused Damaged room bytes r) (IsRefused Long room bytes r)
    (data_judged fails room bytes r.key.items r.content.items result own) (λ own_data. own_data) (λ other. inr other) (λ damaged. damaged) (λ long. long)
