-- The laws of types with no payload.
use Rattle.std.proofs.Common.{◌≡◌, ℕ, ◌≤◌, ◌<◌, ◌^◌, List, [], ◌∷◌, ◌++◌, length, take, replicate, Ok, Err, refl, sym, ap, ◌∙◌, arith}
use Rattle.std.specs.Prelude.{not, nat_eq, nat_lt, if◌then◌else◌}
use Rattle.std.proofs.lemmas.Bool.{ltb-false, eq-eqb}
use Rattle.std.proofs.lemmas.List.{take_at, take_all, length-take, length-append, length-replicate}
use Rattle.std.specs.declared.io.ErrorKind.{ErrorKind}
use Rattle.std.specs.declared.io.ErrorKind.TheVariants.{UnexpectedEof, InvalidData, InvalidInput}
use Rattle.byte_streams.specs.Numbers.{le32, le32_at, le64, le64_at}
use Rattle.byte_streams.proofs.NumberLaws.{AreBytes, length-le32, length-le64}
use Rattle.uuid.specs.Parts.{swap_fields}
use Rattle.uuid.proofs.RoundTrips.{swap_twice}
use Rattle.negoex_messages.specs.Form.{Layout, Answer, then_read}
use Rattle.negoex_messages.specs.Laws.{LayoutLaws}
use Rattle.negoex_messages.specs.Leaves.{byte_layout, guid_layout, number_layout, long_layout, judged_layout, signature_layout, scheme_layout, first_bytes, random_layout}
use Rattle.negoex_messages.specs.Steps.{then-ok, if-ok, if-fine, ok-same, le32-front, le64-front, le32-again_all, le64-again_all}

byte-found : (v : ℕ) (header : List ℕ) → length header ≤ 1 → byte_layout.read header [] ≡ Ok v → header ≡ v ∷ []
byte-found v [] few e = cc
byte-found v (b ∷ []) few e = cc
byte-found v (b ∷ c ∷ rest) few e = absurd (omega arith)

pub byte_laws : LayoutLaws byte_layout
byte_laws = record {
  some = omega arith;
  found = λ v header whole _ _ few e. byte-found v header few e;
  full = λ v header whole e. ap length e;
  given = λ v header whole _ e. ap (λ h. byte_layout.read h whole) e;
  head_size = λ v o. refl;
  body_size = λ v o. refl;
  written = λ v o front rest _ _. refl;
}

guid-found : (v : List ℕ) (header : List ℕ) → length header ≤ 16 → guid_layout.read header [] ≡ Ok v → header ≡ swap_fields v
guid-found v header few e =
    let long = if-ok (nat_lt (length header) 16) UnexpectedEof (Ok (swap_fields header)) v e in
    let size : length header ≡ 16 = omega (arith, ltb-false (length header) 16 long.0) in
    sym (swap_twice header size) ∙ ap swap_fields (ok-same (Ok (swap_fields header)) (swap_fields header) v refl long.1)

guid-given : (v : List ℕ) (header : List ℕ) → length v ≡ 16 → header ≡ swap_fields v → guid_layout.read header [] ≡ Ok v
guid-given v header size e =
    ap (λ h. guid_layout.read h []) e ∙ ap Ok (swap_twice v size)

pub guid_laws : LayoutLaws guid_layout
guid_laws = record {
  some = omega arith;
  found = λ v header whole _ _ few e. guid-found v header few e;
  full = λ v header whole e. ap length e;
  given = λ v header whole fits e. guid-given v header fits e;
  head_size = λ v o. refl;
  body_size = λ v o. refl;
  written = λ v o front rest _ _. refl;
}

number-found : (n : ℕ) (header : List ℕ) → AreBytes header → length header ≤ 4 → number_layout.read header [] ≡ Ok n → header ≡ le32 n
number-found n header bytes few e =
    let long = if-ok (nat_lt (length header) 4) UnexpectedEof (Ok (le32_at 0 header)) n e in
    let size : length header ≡ 4 = omega (arith, ltb-false (length header) 4 long.0) in
    sym (le32-front header bytes size) ∙ ap le32 (ok-same (Ok (le32_at 0 header)) (le32_at 0 header) n refl long.1)

number-given : (n : ℕ) → n < 2 ^ 32 → number_layout.read (le32 n) [] ≡ Ok n
number-given n fits =
    ap (λ (size : ℕ). if nat_lt size 4 then Err UnexpectedEof else Ok (le32_at 0 (le32 n))) (length-le32 n) ∙ ap Ok (le32-again_all n fits)

pub number_laws : LayoutLaws number_layout
number_laws = record {
  some = omega arith;
  found = λ n header whole bytes _ few e. number-found n header bytes few e;
  full = λ n header whole e. ap length e ∙ length-le32 n;
  given = λ n header whole fits e. ap (λ h. number_layout.read h whole) e ∙ number-given n fits;
  head_size = λ n o. length-le32 n;
  body_size = λ n o. refl;
  written = λ n o front rest _ _. refl;
}

long-found : (n : ℕ) (header : List ℕ) → AreBytes header → length header ≤ 8 → long_layout.read header [] ≡ Ok n → header ≡ le64 n
long-found n header bytes few e =
    let long = if-ok (nat_lt (length header) 8) UnexpectedEof (Ok (le64_at 0 header)) n e in
    let size : length header ≡ 8 = omega (arith, ltb-false (length header) 8 long.0) in
    sym (le64-front header bytes size) ∙ ap le64 (ok-same (Ok (le64_at 0 header)) (le64_at 0 header) n refl long.1)

long-given : (n : ℕ) → n < 2 ^ 64 → long_layout.read (le64 n) [] ≡ Ok n
long-given n fits =
    ap (λ (size : ℕ). if nat_lt size 8 then Err UnexpectedEof else Ok (le64_at 0 (le64 n))) (length-le64 n) ∙ ap Ok (le64-again_all n fits)

pub long_laws : LayoutLaws long_layout
long_laws = record {
  some = omega arith;
  found = λ n header whole bytes _ few e. long-found n header bytes few e;
  full = λ n header whole e. ap length e ∙ length-le64 n;
  given = λ n header whole fits e. ap (λ h. long_layout.read h whole) e ∙ long-given n fits;
  head_size = λ n o. length-le64 n;
  body_size = λ n o. refl;
  written = λ n o front rest _ _. refl;
}

judged-read : (wanted : ℕ) (fault : ErrorKind) (l : Layout ℕ) (n : ℕ) (header whole : List ℕ)
    → (judged_layout wanted fault l).read header whole ≡ Ok n → l.read header whole ≡ Ok n
judged-read wanted fault l n header whole e =
    let first = then-ok (l.read header whole) _ n e in
    let second = if-ok (not (nat_eq first.0 wanted)) fault (Ok first.0) n first.2 in
    first.1 ∙ second.1

judged-given : (wanted : ℕ) (fault : ErrorKind) (l : Layout ℕ) (n : ℕ) (header whole : List ℕ) → n ≡ wanted → l.read header whole ≡ Ok n
    → (judged_layout wanted fault l).read header whole ≡ Ok n
judged-given wanted fault l n header whole is e =
    ap (λ (r : Answer ℕ). then_read r (λ m. if not (nat_eq m wanted) then Err fault else Ok m)) e
    ∙ if-fine (not (nat_eq n wanted)) (Err fault) (Ok n) (ap not (eq-eqb n wanted is))

pub judged_laws : (wanted : ℕ) (fault : ErrorKind) (l : Layout ℕ) → LayoutLaws l → LayoutLaws (judged_layout wanted fault l)
judged_laws wanted fault l laws = record {
  some = laws.some;
  found = λ n header whole header_bytes bytes few e. laws.found n header whole header_bytes bytes few (judged-read wanted fault l n header whole e);
  full = laws.full;
  given = λ n header whole fits is. judged-given wanted fault l n header whole fits.1 (laws.given n header whole fits.0 is);
  head_size = laws.head_size;
  body_size = laws.body_size;
  written = laws.written;
}

pub signature_laws : LayoutLaws signature_layout
signature_laws = judged_laws 6004521257897772366 InvalidData long_layout long_laws

pub scheme_laws : LayoutLaws scheme_layout
scheme_laws = judged_laws 1 InvalidInput number_layout number_laws

pub first-all : (v : List ℕ) → length v ≡ 32 → first_bytes 32 v ≡ v
first-all v size = take_at v (replicate 32 0) 32 size

first-size : (v : List ℕ) → length (first_bytes 32 v) ≡ 32
first-size v = omega (arith, length-take 32 (v ++ replicate 32 0), length-append v (replicate 32 0), length-replicate {A = ℕ} 32 0)

random-found : (v header : List ℕ) → length header ≤ 32 → random_layout.read header [] ≡ Ok v → header ≡ first_bytes 32 v
random-found v header few e =
    let long = if-ok (nat_lt (length header) 32) UnexpectedEof (Ok (take 32 header)) v e in
    let size : length header ≡ 32 = omega (arith, ltb-false (length header) 32 long.0) in
    sym (first-all header size) ∙ ap (first_bytes 32) (sym (take_all 32 header (omega arith)) ∙ ok-same (Ok (take 32 header)) (take 32 header) v refl long.1)

random-given : (v : List ℕ) → length v ≡ 32 → random_layout.read v [] ≡ Ok v
random-given v size = ap (λ (n : ℕ). if nat_lt n 32 then Err UnexpectedEof else Ok (take 32 v)) size ∙ ap Ok (take_all 32 v (omega arith))

pub random_laws : LayoutLaws random_layout
random_laws = record {
  some = omega arith;
  found = λ v header whole _ _ few e. random-found v header few e;
  full = λ v header whole e. ap length e ∙ first-size v;
  given = λ v header whole fits e. ap (λ h. random_layout.read h whole) (e ∙ first-all v fits) ∙ random-given v fits;
  head_size = λ v o. first-size v;
  body_size = λ v o. refl;
  written = λ v o front rest _ _. refl;
}
