-- What is read is laid out.
use Rattle.std.proofs.Common.{◌≡◌, ℕ, zero, suc, ◌+◌, ◌-◌, ◌^◌, ◌<◌, ◌≤◌, Bool, true, false, List, [], ◌∷◌, ◌++◌, length, get_or, take, drop, Result, Ok, Err, nat_lt, if◌then◌else◌, refl, ap, sym, subst, ◌∙◌, arith}
use Rattle.std.proofs.lemmas.List.{length-take-le, length-drop, take-append-drop, drop-drop, drop_more}
use Rattle.asn1_leaves.specs.CharSets.{is_general_string}
use Rattle.byte_streams.specs.Numbers.{be16, be16_at}
use Rattle.byte_streams.proofs.NumberLaws.{AreBytes}
use Rattle.krb_file_formats.specs.Numbers.{be32, be32_at}
use Rattle.krb_file_formats.specs.Entries.{Entry, Fits, FitsText, TextsFit, counted, texts_bytes, texts_size, principal_bytes, record_body, kvno_of}
use Rattle.krb_file_formats.specs.Reading.{NameAt, and_then, number_at, fitting, count_at, octets_at, text_at, texts_at, name_at, fixed_at, entry_at}
use Rattle.krb_file_formats.specs.declared.reading.Fixed.{Fixed}
use Rattle.krb_file_formats.proofs.NumberLaws.{be16-there, be32-there, be16-fits, be32-fits}
use Rattle.krb_file_formats.proofs.PlaceLaws.{from-place, enough}
use Rattle.krb_file_formats.proofs.AgainLaws.{kvno-again}

-- from one place to the next are these octets, in front of what is behind them, and their values fit
pub record IsAhead (place next : ℕ) (bytes : List ℕ → List ℕ) (Fit : Type 0) (whole : List ℕ) : Type 0 where
  pub rest : drop place whole ≡ bytes (drop next whole)
  pub inside : next ≤ length whole
  pub fits : Fit

pub ahead-join : {a b c : ℕ} {f g : List ℕ → List ℕ} {P Q : Type 0} {whole : List ℕ} → IsAhead a b f P whole → IsAhead b c g Q whole
    → IsAhead a c (λ m. f (g m)) (P × Q) whole
ahead-join {f = f} one two = record { rest = one.rest ∙ ap f two.rest; inside = two.inside; fits = (one.fits, two.fits) }

pub ahead-to : {a b : ℕ} {f : List ℕ → List ℕ} {P : Type 0} {whole : List ℕ} (c : ℕ) → b ≡ c → IsAhead a b f P whole → IsAhead a c f P whole
ahead-to {a = a} {f = f} {P = P} {whole = whole} c is = subst (λ (p : ℕ). IsAhead a p f P whole) is

pub ahead-as : {a b : ℕ} {f : List ℕ → List ℕ} {P Q : Type 0} {whole : List ℕ} → (P → Q) → IsAhead a b f P whole → IsAhead a b f Q whole
ahead-as holds one = record { rest = one.rest; inside = one.inside; fits = holds one.fits }

-- so many octets, and what is behind them
ahead-cut : (place size : ℕ) (whole : List ℕ) → place + size ≤ length whole → drop place whole ≡ take size (drop place whole) ++ drop (place + size) whole
ahead-cut place size whole inside =
    sym (take-append-drop size (drop place whole)) ∙ ap (λ (l : List ℕ). take size (drop place whole) ++ l) (drop-drop size place whole)

pub then-ok : {A B E : Type 0} (r : Result A E) (f : A → Result B E) (b : B) → and_then r f ≡ Ok b → (a : A) × (r ≡ Ok a) × (f a ≡ Ok b)
then-ok (Ok a) f b is = (a, refl, is)
then-ok (Err e) f b is = absurd (cc is)

-- what is read, in place of what it is made of
pub as-read : {A E : Type 0} (P : A → Type 0) (x a : A) → ◌≡◌ {A = Result A E} (Ok x) (Ok a) → P x → P a
as-read P x a is = subst P (cc is)

pub if-ok : {A E : Type 0} (test : Bool) (e : E) (r : Result A E) (a : A) → (if test then Err e else r) ≡ Ok a → (test ≡ false) × (r ≡ Ok a)
if-ok true e r a is = absurd (cc is)
if-ok false e r a is = (refl, is)

pub if-not : {A E : Type 0} (test : Bool) (e : E) (x a : A) → (if test then Ok x else Err e) ≡ Ok a → (test ≡ true) × (x ≡ a)
if-not true e x a is = (refl, cc is)
if-not false e x a is = absurd (cc is)

-- these octets are there
pub cut-ahead : {P : Type 0} (place next size : ℕ) (octets whole : List ℕ) → next ≡ place + size → next ≤ length whole → take size (drop place whole) ≡ octets → P
    → IsAhead place next (λ m. octets ++ m) P whole
cut-ahead place next size octets whole end inside is fits = record {
  rest =
      ahead-cut place size whole (omega (arith, end, inside)) ∙ ap (λ (l : List ℕ). l ++ drop (place + size) whole) is
      ∙ ap (λ (p : ℕ). octets ++ drop p whole) (sym end);
  inside = inside;
  fits = fits;
}

-- a number is there that is read
pub be16-ahead : (place next n : ℕ) (whole : List ℕ) → AreBytes whole → next ≡ place + 2 → next ≤ length whole → be16_at place whole ≡ n
    → IsAhead place next (λ m. be16 n ++ m) (n < 2 ^ 16) whole
be16-ahead place next n whole bytes end inside is =
    cut-ahead place next 2 (be16 n) whole end inside (sym (be16-there place whole bytes (omega (arith, end, inside))) ∙ ap be16 is)
    (subst (λ (k : ℕ). k < 2 ^ 16) is (be16-fits place whole bytes))

pub be32-ahead : (place next n : ℕ) (whole : List ℕ) → AreBytes whole → next ≡ place + 4 → next ≤ length whole → be32_at place whole ≡ n
    → IsAhead place next (λ m. be32 n ++ m) (n < 2 ^ 32) whole
be32-ahead place next n whole bytes end inside is =
    cut-ahead place next 4 (be32 n) whole end inside (sym (be32-there place whole bytes (omega (arith, end, inside))) ∙ ap be32 is)
    (subst (λ (k : ℕ). k < 2 ^ 32) is (be32-fits place whole bytes))

number-found : (place n : ℕ) (whole : List ℕ) → AreBytes whole → number_at place whole ≡ Ok n → IsAhead place (place + 2) (λ m. be16 n ++ m) (n < 2 ^ 16) whole
number-found place n whole bytes is =
    let (test, made) = if-ok (nat_lt (length whole - place) 2) _ _ n is in
    let some : 2 ≤ length whole - place = enough _ _ test in
    be16-ahead place (place + 2) n whole bytes refl (omega (arith, some)) (cc made)

-- octets that are read behind their length
counted-found : (place n : ℕ) (t whole : List ℕ) → AreBytes whole → count_at place whole ≡ Ok n → take n (drop (place + 2) whole) ≡ t
    → IsAhead place (place + (2 + length t)) (counted t) (length t < 2 ^ 16) whole
counted-found place n t whole bytes is same =
    let (m, is_m, fit) = then-ok (number_at place whole) (fitting place whole) n is in
    let (test, made) = if-ok (nat_lt (length whole - (place + 2)) m) _ _ n fit in
    let also : m ≡ n = cc made in
    let room : m ≤ length whole - (place + 2) = enough _ _ test in
    let long : length t ≡ n = ap length (sym same) ∙ length-take-le n (drop (place + 2) whole) (omega (arith, length-drop (place + 2) whole, room, also)) in
    let number = number-found place (length t) whole bytes (is_m ∙ ap (λ (k : ℕ). Ok k) (also ∙ sym long)) in
    let inside = number.inside in
    let octets : IsAhead (place + 2) (place + (2 + length t)) (λ m. t ++ m) (Unit {0}) whole =
    cut-ahead (place + 2) (place + (2 + length t)) n t whole (omega (arith, long)) (omega (arith, long, room, also, inside)) same tt in
    ahead-as (λ fits. fits.0) (ahead-join number octets)

octets-found : (place : ℕ) (t whole : List ℕ) → AreBytes whole → octets_at place whole ≡ Ok t
    → IsAhead place (place + (2 + length t)) (counted t) (length t < 2 ^ 16) whole
octets-found place t whole bytes is =
    let (n, is_n, made) = then-ok (count_at place whole) _ t is in
    counted-found place n t whole bytes is_n (cc made)

text-found : (place : ℕ) (t whole : List ℕ) → AreBytes whole → text_at place whole ≡ Ok t → IsAhead place (place + (2 + length t)) (counted t) (FitsText t) whole
text-found place t whole bytes is =
    let (n, is_n, judged) = then-ok (count_at place whole) _ t is in
    let (general, same) = if-not (is_general_string (take n (drop (place + 2) whole))) _ _ t judged in
    let characters = subst (λ (l : List ℕ). is_general_string l ≡ true) same general in
    ahead-as (λ size. record { size = size; characters = characters }) (counted-found place n t whole bytes is_n same)

-- so many texts
abbrev AreTexts : ℕ → ℕ → List ℕ → List (List ℕ) → Type 0
AreTexts n place whole ts = IsAhead place (place + texts_size ts) (texts_bytes ts) (TextsFit ts × (length ts ≡ n)) whole

texts-found : (n place : ℕ) (ts : List (List ℕ)) (whole : List ℕ) → AreBytes whole → place ≤ length whole → texts_at n place whole ≡ Ok ts → AreTexts n place whole ts
texts-found zero place ts whole bytes inside is =
    let none : place ≡ place + 0 = omega arith in
    as-read (AreTexts zero place whole) [] ts is record { rest = ap (λ (p : ℕ). drop p whole) none; inside = omega (arith, inside); fits = (tt, refl) }
texts-found (suc n) place ts whole bytes inside is =
    let (t, is_t, later) = then-ok (text_at place whole) _ ts is in
    let (us, is_us, made) = then-ok (texts_at n (place + (2 + length t)) whole) _ ts later in
    let one = text-found place t whole bytes is_t in
    let others = texts-found n (place + (2 + length t)) us whole bytes one.inside is_us in
    as-read (AreTexts (suc n) place whole) (t ∷ us) ts made
    (ahead-to (place + texts_size (t ∷ us)) (omega arith) (ahead-as (λ fits. ((fits.0, fits.1.0), ap suc fits.1.1)) (ahead-join one others)))

-- a name that is read
abbrev IsName : ℕ → List ℕ → NameAt → Type 0
IsName place whole name =
    IsAhead place name.end (principal_bytes name.realm name.components) ((length name.components < 2 ^ 16) × (FitsText name.realm × TextsFit name.components)) whole

name-found : (place : ℕ) (name : NameAt) (whole : List ℕ) → AreBytes whole → name_at place whole ≡ Ok name → IsName place whole name
name-found place name whole bytes is =
    let (count, is_count, later) = then-ok (number_at place whole) _ name is in
    let (realm, is_realm, last) = then-ok (text_at (place + 2) whole) _ name later in
    let begin = place + 4 + length realm in
    let (ts, is_ts, made) = then-ok (texts_at count begin whole) _ name last in
    let text = ahead-to begin (omega arith) (text-found (place + 2) realm whole bytes is_realm) in
    let texts = texts-found count begin ts whole bytes text.inside is_ts in
    let number = number-found place (length ts) whole bytes (is_count ∙ ap (λ (k : ℕ). Ok k) (sym texts.fits.1)) in
    as-read (IsName place whole) _ name made (ahead-as (λ fits. (fits.0, (fits.1.0, fits.1.1.0))) (ahead-join number (ahead-join text texts)))

-- the fixed fields that are read
abbrev AreFound : ℕ → List ℕ → Fixed → Type 0
AreFound place whole f =
    IsAhead place (place + 11) (λ m. be32 f.name_type ++ (be32 f.timestamp ++ (f.kvno ∷ (be16 f.etype ++ m))))
    ((f.name_type < 2 ^ 32) × ((f.timestamp < 2 ^ 32) × ((f.kvno < 2 ^ 8) × (f.etype < 2 ^ 16)))) whole

fixed-found : (place : ℕ) (f : Fixed) (whole : List ℕ) → AreBytes whole → fixed_at place whole ≡ Ok f → AreFound place whole f
fixed-found place f whole bytes is =
    let (test, made) = if-ok (nat_lt (length whole - place) 11) _ _ f is in
    let some : 11 ≤ length whole - place = enough _ _ test in
    let low : IsAhead (place + 8) (place + 9) (λ m. get_or whole (place + 8) 0 ∷ m) (get_or whole (place + 8) 0 < 2 ^ 8) whole = record {
      rest = let next : place + 8 + 1 ≡ place + 9 = omega arith in
          drop_more whole (place + 8) 0 (omega (arith, some)) ∙ ap (λ (p : ℕ). get_or whole (place + 8) 0 ∷ drop p whole) next;
      inside = omega (arith, some);
      fits = bytes (place + 8);
    } in
    as-read (AreFound place whole) _ f made
    (ahead-join (be32-ahead place (place + 4) _ whole bytes refl (omega (arith, some)) refl)
    (ahead-join (be32-ahead (place + 4) (place + 8) _ whole bytes (omega arith) (omega (arith, some)) refl)
    (ahead-join low (be16-ahead (place + 9) (place + 11) _ whole bytes (omega arith) (omega (arith, some)) refl))))

-- an entry that is read
pub record IsFound (place : ℕ) (whole : List ℕ) (e : Entry) : Type 0 where
  pub low : ℕ
  pub left : List ℕ
  pub body : drop place whole ≡ record_body e low left
  pub fits : Fits e
  pub small : low < 2 ^ 8
  pub kvno : kvno_of low left ≡ e.kvno

pub entry-found : (place : ℕ) (e : Entry) (whole : List ℕ) → AreBytes whole → entry_at place whole ≡ Ok e → IsFound place whole e
entry-found place e whole bytes is =
    let (name, is_name, later) = then-ok (name_at place whole) _ e is in
    let (f, is_f, last) = then-ok (fixed_at name.end whole) _ e later in
    let (key, is_key, made) = then-ok (octets_at (name.end + 11) whole) _ e last in
    let end = name.end + 11 + 2 + length key in
    let n = name-found place name whole bytes is_name in
    let fs = fixed-found name.end f whole bytes is_f in
    let k = ahead-to end (omega arith) (octets-found (name.end + 11) key whole bytes is_key) in
    let all = ahead-join n (ahead-join fs k) in
    as-read (IsFound place whole) _ e made record {
      low = f.kvno;
      left = drop end whole;
      body = all.rest;
      fits = record {
        count = n.fits.0;
        realm = n.fits.1.0;
        components = n.fits.1.1;
        name_type = fs.fits.0;
        timestamp = fs.fits.1.0;
        etype = fs.fits.1.1.1;
        key = k.fits;
      };
      small = fs.fits.1.1.0;
      kvno = sym (kvno-again end f.kvno (drop end whole) whole (from-place end whole all.inside));
    }
