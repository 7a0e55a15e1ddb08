-- What is wrong with the front of some bytes is wrong with the bytes.
use Rattle.std.proofs.Common.{◌≡◌, ℕ, ◌<◌, ◌≤◌, Bool, true, false, not, ◌&&◌, List, ◌++◌, length, take, drop, slice_index, nat_le, nat_lt, nat_eq, bytes_eq, Ok, Err, if◌then◌else◌, refl, ap, sym, ◌∙◌, inl, inr, ◌⊎◌, arith}
use Rattle.std.proofs.lemmas.Bool.{cases_lt, le-leb}
use Rattle.std.proofs.lemmas.Bool.Decides.{nat_tests, Decides-eqb}
use Rattle.std.proofs.lemmas.Slice.Eq.{bytes_eq-Decides}
use Rattle.std.proofs.lemmas.List.{take-append-le, drop-append-le, get_or_append_left, length-append, length-drop}
use Rattle.std.specs.declared.io.ErrorKind.{ErrorKind}
use Rattle.gss_contexts.specs.declared.message_tokens.kind.TokenKind.{TokenKind}
use Rattle.gss_contexts.specs.declared.message_tokens.kind.TokenKind.TheVariants.{Mic, Wrap}
use Rattle.gss_contexts.specs.declared.message_tokens.error.GssApiMessageError.{GssApiMessageError}
use Rattle.gss_contexts.specs.declared.message_tokens.error.GssApiMessageError.TheVariants.{InvalidId, IoError, InvalidMicFiller, InvalidWrapFiller}
use Rattle.gss_contexts.specs.MessageTokenJudging.{Verdict, id_of, mic_filler, id_judged, mic_filler_judged, wrap_filler_judged, filler_judged, length_judged, or_else, judged}

-- what is judged where it is there
abbrev told : Bool → GssApiMessageError → Verdict
told good fault = if not good then Err fault else Ok tt

abbrev piece : ℕ → List ℕ → Bool → GssApiMessageError → Verdict
piece n whole good fault = if nat_le n (length whole) && not good then Err fault else Ok tt

piece-there : (n : ℕ) (whole : List ℕ) (good : Bool) (fault : GssApiMessageError) → n ≤ length whole → piece n whole good fault ≡ told good fault
piece-there n whole good fault there = ap (λ (b : Bool). if b && not good then Err fault else Ok tt) (le-leb n (length whole) there)

not_le : (m n : ℕ) → n < m → nat_le m n ≡ false
not_le m n below = grind (arith, nat_tests)

piece-missing : (n : ℕ) (whole : List ℕ) (good : Bool) (fault : GssApiMessageError) → length whole < n → piece n whole good fault ≡ Ok tt
piece-missing n whole good fault missing = ap (λ (b : Bool). if b && not good then Err fault else Ok tt) (not_le n (length whole) missing)

-- what has a fault is there
piece-long : (n : ℕ) (whole : List ℕ) (good : Bool) (fault e : GssApiMessageError) → piece n whole good fault ≡ Err e → n ≤ length whole
piece-long n whole good fault e wrong =
    elim (cases_lt (length whole) n) [
      | inl missing ↦ let fine = piece-missing n whole good fault missing in absurd (cc (wrong, fine))
      | inr there ↦ there
    ]

told-good : (good : Bool) (fault : GssApiMessageError) → told good fault ≡ Ok tt → good ≡ true
told-good true fault fine = refl
told-good false fault fine = cc

pub id-settled : (kind : TokenKind) (front rest : List ℕ) → 2 ≤ length front → id_judged kind (front ++ rest) ≡ id_judged kind front
id-settled kind front rest there =
    let more : 2 ≤ length (front ++ rest) = omega (arith, length-append front rest) in
    piece-there 2 (front ++ rest) _ _ more
    ∙ ap (λ (l : List ℕ). told (bytes_eq l (id_of kind)) (InvalidId (id_of kind) l)) (take-append-le 2 front rest there)
    ∙ sym (piece-there 2 front _ _ there)

mic_filler-settled : (front rest : List ℕ) → 8 ≤ length front → mic_filler_judged (front ++ rest) ≡ mic_filler_judged front
mic_filler-settled front rest there =
    let more : 8 ≤ length (front ++ rest) = omega (arith, length-append front rest) in
    let five : 5 ≤ length (drop 3 front) = omega (arith, length-drop 3 front) in
    let same : take 5 (drop 3 (front ++ rest)) ≡ take 5 (drop 3 front) =
    ap (take 5) (drop-append-le 3 front rest (omega arith)) ∙ take-append-le 5 (drop 3 front) rest five in
    piece-there 8 (front ++ rest) _ _ more
    ∙ ap (λ (l : List ℕ). told (bytes_eq l mic_filler) (InvalidMicFiller l)) same
    ∙ sym (piece-there 8 front _ _ there)

wrap_filler-settled : (front rest : List ℕ) → 4 ≤ length front → wrap_filler_judged (front ++ rest) ≡ wrap_filler_judged front
wrap_filler-settled front rest there =
    let more : 4 ≤ length (front ++ rest) = omega (arith, length-append front rest) in
    piece-there 4 (front ++ rest) _ _ more
    ∙ ap (λ (n : ℕ). told (nat_eq n 255) (InvalidWrapFiller n)) (get_or_append_left front rest 0 3 (omega arith))
    ∙ sym (piece-there 4 front _ _ there)

pub filler-settled : (kind : TokenKind) (front rest : List ℕ) → 8 ≤ length front → filler_judged kind (front ++ rest) ≡ filler_judged kind front
filler-settled Mic front rest there = mic_filler-settled front rest there
filler-settled Wrap front rest there = wrap_filler-settled front rest (omega arith)

-- a fault of the front
filler-long : (kind : TokenKind) (front : List ℕ) (e : GssApiMessageError) → filler_judged kind front ≡ Err e → 4 ≤ length front
filler-long Mic front e wrong = let long = piece-long 8 front _ _ e wrong in omega arith
filler-long Wrap front e wrong = piece-long 4 front _ _ e wrong

filler-wrong : (kind : TokenKind) (front rest : List ℕ) (e : GssApiMessageError) → filler_judged kind front ≡ Err e → filler_judged kind (front ++ rest) ≡ Err e
filler-wrong Mic front rest e wrong = mic_filler-settled front rest (piece-long 8 front _ _ e wrong) ∙ wrong
filler-wrong Wrap front rest e wrong = wrap_filler-settled front rest (piece-long 4 front _ _ e wrong) ∙ wrong

id-wrong : (kind : TokenKind) (front rest : List ℕ) (e : GssApiMessageError) → id_judged kind front ≡ Err e → id_judged kind (front ++ rest) ≡ Err e
id-wrong kind front rest e wrong = id-settled kind front rest (piece-long 2 front _ _ e wrong) ∙ wrong

or_else-ok : (a b : Verdict) → or_else a b ≡ Ok tt → (a ≡ Ok tt) × (b ≡ Ok tt)
or_else-ok (Ok u) b fine = (refl, fine)
or_else-ok (Err e) b fine = absurd (cc fine)

pub or_else-err : (a b : Verdict) (e : GssApiMessageError) → or_else a b ≡ Err e → (a ≡ Err e) ⊎ ((a ≡ Ok tt) × (b ≡ Err e))
or_else-err (Ok u) b e wrong = inr (refl, wrong)
or_else-err (Err f) b e wrong = inl wrong

length-fine : (short : ErrorKind) (whole : List ℕ) → 16 ≤ length whole → length_judged short whole ≡ Ok tt
length-fine short whole long =
    let test : nat_lt (length whole) 16 ≡ false = grind (arith, nat_tests) in
    ap (λ (b : Bool). if b then Err (IoError short) else Ok tt) test

length-ok : (short : ErrorKind) (whole : List ℕ) → length_judged short whole ≡ Ok tt → 16 ≤ length whole
length-ok short whole fine =
    elim (cases_lt (length whole) 16) [
      | inl few ↦
          let test : nat_lt (length whole) 16 ≡ true = grind (arith, nat_tests) in
          let wrong : length_judged short whole ≡ Err (IoError short) = ap (λ (b : Bool). if b then Err (IoError short) else Ok tt) test in
          absurd (cc (fine, wrong))
      | inr long ↦ long
    ]

pub length-err : (short : ErrorKind) (whole : List ℕ) (e : GssApiMessageError) → length_judged short whole ≡ Err e → (e ≡ IoError short) × (length whole < 16)
length-err short whole e wrong =
    elim (cases_lt (length whole) 16) [
      | inl few ↦
          let test : nat_lt (length whole) 16 ≡ true = grind (arith, nat_tests) in
          let told : length_judged short whole ≡ Err (IoError short) = ap (λ (b : Bool). if b then Err (IoError short) else Ok tt) test in
          (cc (wrong, told), few)
      | inr long ↦ let fine = length-fine short whole long in absurd (cc (wrong, fine))
    ]

-- nothing is wrong with bytes that are judged so
pub record IsFine (kind : TokenKind) (whole : List ℕ) : Type 0 where
  pub id : id_judged kind whole ≡ Ok tt
  pub filler : filler_judged kind whole ≡ Ok tt
  pub long : 16 ≤ length whole

pub judged-fine : (kind : TokenKind) (short : ErrorKind) (whole : List ℕ) → judged kind short whole ≡ Ok tt → IsFine kind whole
judged-fine kind short whole fine =
    let both = or_else-ok (id_judged kind whole) _ fine in
    let rest = or_else-ok (filler_judged kind whole) _ both.1 in
    record { id = both.0; filler = rest.0; long = length-ok short whole rest.1 }

pub fine-judged : (kind : TokenKind) (short : ErrorKind) (whole : List ℕ) → IsFine kind whole → judged kind short whole ≡ Ok tt
fine-judged kind short whole fine =
    ap (λ (v : Verdict). or_else v (or_else (filler_judged kind whole) (length_judged short whole))) fine.id
    ∙ ap (λ (v : Verdict). or_else v (length_judged short whole)) fine.filler
    ∙ length-fine short whole fine.long

-- what 16 bytes are judged, they are judged with anything behind them
pub judged-settled : (kind : TokenKind) (s t : ErrorKind) (front rest : List ℕ) → 16 ≤ length front → judged kind s (front ++ rest) ≡ judged kind t front
judged-settled kind s t front rest long =
    let more : 16 ≤ length (front ++ rest) = omega (arith, length-append front rest) in
    let lengths : length_judged s (front ++ rest) ≡ length_judged t front = length-fine s (front ++ rest) more ∙ sym (length-fine t front long) in
    ap (λ (v : Verdict). or_else v (or_else (filler_judged kind (front ++ rest)) (length_judged s (front ++ rest)))) (id-settled kind front rest (omega arith))
    ∙ ap (λ (v : Verdict). or_else (id_judged kind front) (or_else v (length_judged s (front ++ rest)))) (filler-settled kind front rest (omega arith))
    ∙ ap (λ (v : Verdict). or_else (id_judged kind front) (or_else (filler_judged kind front) v)) lengths

-- nothing but its length is wrong with the front of a token
pub record IsShort (kind : TokenKind) (short : ErrorKind) (front : List ℕ) (e : GssApiMessageError) : Type 0 where
  pub id : id_judged kind front ≡ Ok tt
  pub filler : filler_judged kind front ≡ Ok tt
  pub answered : e ≡ IoError short
  pub few : length front < 16

-- what is wrong with a front is wrong with the whole, or the front is short
pub judged-wrong : (kind : TokenKind) (s t : ErrorKind) (front rest : List ℕ) (e : GssApiMessageError)
    → judged kind s front ≡ Err e → (judged kind t (front ++ rest) ≡ Err e) ⊎ IsShort kind s front e
judged-wrong kind s t front rest e wrong =
    elim (or_else-err (id_judged kind front) (or_else (filler_judged kind front) (length_judged s front)) e wrong) [
      | inl id_wrong ↦ inl (ap (λ (v : Verdict). or_else v (or_else (filler_judged kind (front ++ rest)) (length_judged t (front ++ rest)))) (id-wrong kind front rest e id_wrong))
      | inr later ↦ elim (or_else-err (filler_judged kind front) (length_judged s front) e later.1) [
        | inl filler_wrong ↦ inl
            (let long = filler-long kind front e filler_wrong in
            ap (λ (v : Verdict). or_else v (or_else (filler_judged kind (front ++ rest)) (length_judged t (front ++ rest)))) (id-settled kind front rest (omega arith) ∙ later.0)
            ∙ ap (λ (v : Verdict). or_else v (length_judged t (front ++ rest))) (filler-wrong kind front rest e filler_wrong))
        | inr last ↦
            let short = length-err s front e last.1 in
            inr record { id = later.0; filler = last.0; answered = short.0; few = short.1 }
      ]
    ]

-- a fine id is the token's, and a fine filler is all FF
pub id-is : (kind : TokenKind) (whole : List ℕ) → IsFine kind whole → take 2 whole ≡ id_of kind
id-is kind whole fine =
    (bytes_eq-Decides (take 2 whole) (id_of kind)).0 (told-good _ _ (sym (piece-there 2 whole _ _ (let long = fine.long in omega arith)) ∙ fine.id))

pub mic_filler-is : (whole : List ℕ) → IsFine Mic whole → take 5 (drop 3 whole) ≡ mic_filler
mic_filler-is whole fine =
    (bytes_eq-Decides (take 5 (drop 3 whole)) mic_filler).0 (told-good _ _ (sym (piece-there 8 whole _ _ (let long = fine.long in omega arith)) ∙ fine.filler))

pub wrap_filler-is : (whole : List ℕ) → IsFine Wrap whole → slice_index whole 3 ≡ 255
wrap_filler-is whole fine =
    (Decides-eqb (slice_index whole 3) 255).0 (told-good _ _ (sym (piece-there 4 whole _ _ (let long = fine.long in omega arith)) ∙ fine.filler))

-- and the other way round
pub id-fine : (kind : TokenKind) (whole : List ℕ) → 2 ≤ length whole → take 2 whole ≡ id_of kind → id_judged kind whole ≡ Ok tt
id-fine kind whole there is =
    piece-there 2 whole _ _ there ∙ ap (λ (b : Bool). told b (InvalidId (id_of kind) (take 2 whole))) ((bytes_eq-Decides (take 2 whole) (id_of kind)).1 is)

pub mic_filler-fine : (whole : List ℕ) → 8 ≤ length whole → take 5 (drop 3 whole) ≡ mic_filler → filler_judged Mic whole ≡ Ok tt
mic_filler-fine whole there is =
    piece-there 8 whole _ _ there ∙ ap (λ (b : Bool). told b (InvalidMicFiller (take 5 (drop 3 whole)))) ((bytes_eq-Decides (take 5 (drop 3 whole)) mic_filler).1 is)

pub wrap_filler-fine : (whole : List ℕ) → 4 ≤ length whole → slice_index whole 3 ≡ 255 → filler_judged Wrap whole ≡ Ok tt
wrap_filler-fine whole there is =
    piece-there 4 whole _ _ there ∙ ap (λ (b : Bool). told b (InvalidWrapFiller (slice_index whole 3))) ((Decides-eqb (slice_index whole 3) 255).1 is)
