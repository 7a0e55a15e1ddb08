-- What a format lays out is read, and what it reads is laid out.
use Rattle.std.proofs.Common.{◌≡◌, ℕ, ◌+◌, ◌-◌, ◌^◌, ◌<◌, ◌≤◌, List, [], ◌∷◌, ◌++◌, length, get_or, take, drop, Ok, nat_lt, refl, ap, sym, subst, ◌∙◌, arith}
use Rattle.std.proofs.lemmas.List.{length-append, length-take-le, length-drop, drop_more}
use Rattle.asn1_leaves.specs.CharSets.{is_general_string}
use Rattle.byte_streams.proofs.NumberLaws.{AreBytes, length-be16}
use Rattle.byte_streams.specs.Numbers.{be16, be16_at}
use Rattle.krb_file_formats.specs.Numbers.{be32, be32_at}
use Rattle.krb_file_formats.specs.Reading.{and_then}
use Rattle.krb_file_formats.proofs.NumberLaws.{length-be32, be16-first, be32-first}
use Rattle.krb_file_formats.proofs.PlaceLaws.{IsFrom, behind, left, front, octet-first, passes, holds, not-below, enough}
use Rattle.krb_file_formats.proofs.AgainLaws.{step}
use Rattle.krb_file_formats.proofs.FoundLaws.{IsAhead, ahead-join, ahead-as, then-ok, as-read, if-ok, if-not, cut-ahead, be16-ahead, be32-ahead}
use Rattle.krb_file_formats.specs.Formats.{Format, both, counted, data32, exactly, made, number, number8, number16, number32, text}

-- `again`: what is laid out and fits is read. `found`: what is read is laid out and fits. A value takes at least `least` octets.
pub record HasLaws (A : Type 0) (F : Format A) (least : ℕ) : Type 0 where
  pub again : (a : A) (place : ℕ) (more whole : List ℕ) → IsFrom place (F.bytes a more) whole → F.Fits a
      → (next : ℕ) × (F.read place whole ≡ Ok (a, next)) × IsFrom next more whole
  pub found : (a : A × ℕ) (place : ℕ) (whole : List ℕ) → AreBytes whole → place ≤ length whole → F.read place whole ≡ Ok a
      → IsAhead place a.1 (F.bytes a.0) (F.Fits a.0) whole
  pub grows : (a : A) (more : List ℕ) → least + length more ≤ length (F.bytes a more)

-- a value that is read at a place is laid out there
abbrev pub IsThere : {A : Type 0} → Format A → ℕ → List ℕ → A × ℕ → Type 0
IsThere F place whole a = IsAhead place a.1 (F.bytes a.0) (F.Fits a.0) whole

number-laws : (size : ℕ) (octets : ℕ → List ℕ) (at : ℕ → List ℕ → ℕ) → ((n : ℕ) → length (octets n) ≡ size)
    → ((n place : ℕ) (more whole : List ℕ) → IsFrom place (octets n ++ more) whole → n < 256 ^ size → at place whole ≡ n)
    → ((place : ℕ) (whole : List ℕ) → AreBytes whole → place + size ≤ length whole → IsThere (number size octets at) place whole (at place whole, place + size))
    → HasLaws ℕ (number size octets at) size
number-laws size octets at long first there = record {
  again = λ n place more whole from fits.
      let some : size ≤ length whole - place = omega (arith, left place (octets n ++ more) whole from, length-append (octets n) more, long n) in (
        place + size,
        passes (nat_lt (length whole - place) size) _ _ (not-below size (length whole - place) some)
            ∙ ap (λ (m : ℕ). Ok (m, place + size)) (first n place more whole from fits),
        behind place (place + size) (octets n) more whole (omega (arith, long n)) from,
      );
  found = λ a place whole bytes inside is.
      let (test, made) = if-ok (nat_lt (length whole - place) size) _ _ a is in
      let some : size ≤ length whole - place = enough _ _ test in
      as-read (IsThere (number size octets at) place whole) (at place whole, place + size) a made (there place whole bytes (omega (arith, some, inside)));
  grows = λ n more. omega (arith, length-append (octets n) more, long n);
}

pub number8-laws : HasLaws ℕ number8 1
number8-laws =
    number-laws 1 (λ n. n ∷ []) (λ place whole. get_or whole place 0) (λ n. refl) (λ n place more whole from fits. octet-first place n more whole from)
    (λ place whole bytes inside. record { rest = drop_more whole place 0 (omega (arith, inside)); inside = inside; fits = bytes place })

pub number16-laws : HasLaws ℕ number16 2
number16-laws =
    number-laws 2 be16 be16_at length-be16 (λ n place more whole from fits. be16-first place n more whole from.rest fits)
    (λ place whole bytes inside. be16-ahead place (place + 2) _ whole bytes refl inside refl)

pub number32-laws : HasLaws ℕ number32 4
number32-laws =
    number-laws 4 be32 be32_at length-be32 (λ n place more whole from fits. be32-first place n more whole from.rest fits)
    (λ place whole bytes inside. be32-ahead place (place + 4) _ whole bytes refl inside refl)

pub exactly-laws : (n : ℕ) → HasLaws (List ℕ) (exactly n) 0
exactly-laws n = record {
  again = λ t place more whole from fits.
      let some : n ≤ length whole - place = omega (arith, left place (t ++ more) whole from, length-append t more, fits) in (
        place + n,
        passes (nat_lt (length whole - place) n) _ _ (not-below n (length whole - place) some)
            ∙ ap (λ (l : List ℕ). Ok (l, place + n)) (ap (λ (k : ℕ). take k (drop place whole)) (sym fits) ∙ front place t more whole from),
        behind place (place + n) t more whole (omega (arith, fits)) from,
      );
  found = λ a place whole bytes inside is.
      let (test, made) = if-ok (nat_lt (length whole - place) n) _ _ a is in
      let room : n ≤ length whole - place = enough _ _ test in
      as-read (IsThere (exactly n) place whole) (take n (drop place whole), place + n) a made
      (cut-ahead place (place + n) n (take n (drop place whole)) whole refl (omega (arith, room, inside)) refl
      (length-take-le n (drop place whole) (omega (arith, length-drop place whole, room))));
  grows = λ t more. omega (arith, length-append t more);
}

pub both-laws : {A B : Type 0} {F : Format A} {G : Format B} {m n : ℕ} → HasLaws A F m → HasLaws B G n → HasLaws (A × B) (both F G) (m + n)
both-laws {F = F} {G = G} f g = record {
  again = λ v place more whole from fits.
      let (at, one, rest) = f.again v.0 place (G.bytes v.1 more) whole from fits.0 in
      let (end, two, last) = g.again v.1 at more whole rest fits.1 in (
        end,
        step (F.read place whole) (v.0, at) (λ a. and_then (G.read a.1 whole) (λ b. Ok ((a.0, b.0), b.1))) one
            ∙ step (G.read at whole) (v.1, end) (λ b. Ok ((v.0, b.0), b.1)) two,
        last,
      );
  found = λ v place whole bytes inside is.
      let (a, is_a, later) = then-ok (F.read place whole) (λ a. and_then (G.read a.1 whole) (λ b. Ok ((a.0, b.0), b.1))) v is in
      let (b, is_b, made) = then-ok (G.read a.1 whole) (λ b. Ok ((a.0, b.0), b.1)) v later in
      let one = f.found a place whole bytes inside is_a in
      as-read (IsThere (both F G) place whole) ((a.0, b.0), b.1) v made (ahead-join one (g.found b a.1 whole bytes one.inside is_b));
  grows = λ v more. omega (arith, g.grows v.1 more, f.grows v.0 (G.bytes v.1 more));
}

pub made-laws : {A B : Type 0} {F : Format A} {n : ℕ} (to : A → B) (from : B → A) → ((b : B) → to (from b) ≡ b) → ((a : A) → from (to a) ≡ a) → HasLaws A F n
    → HasLaws B (made to from F) n
made-laws {F = F} to from same back f = record {
  again = λ b place more whole is_from fits.
      let (next, is, rest) = f.again (from b) place more whole is_from fits in
      (next, step (F.read place whole) (from b, next) (λ a. Ok (to a.0, a.1)) is ∙ ap (λ x. Ok (x, next)) (same b), rest);
  found = λ b place whole bytes inside is.
      let (a, is_a, told) = then-ok (F.read place whole) (λ a. Ok (to a.0, a.1)) b is in
      as-read (IsThere (made to from F) place whole) (to a.0, a.1) b told
      (subst (λ x. IsAhead place a.1 (F.bytes x) (F.Fits x) whole) (sym (back a.0)) (f.found a place whole bytes inside is_a));
  grows = λ b more. f.grows (from b) more;
}

pub counted-laws : {A : Type 0} {N : Format ℕ} {m k : ℕ} (count : A → ℕ) (F : ℕ → Format A) → ((n : ℕ) (a : A) → (F n).Fits a → count a ≡ n) → HasLaws ℕ N m
    → ((n : ℕ) → HasLaws A (F n) k) → HasLaws A (counted N count F) m
counted-laws {N = N} count F sized number f = record {
  again = λ a place more whole from fits.
      let (at, one, rest) = number.again (count a) place ((F (count a)).bytes a more) whole from fits.0 in
      let (end, two, last) = (f (count a)).again a at more whole rest fits.1 in
      (end, step (N.read place whole) (count a, at) (λ n. (F n.0).read n.1 whole) one ∙ two, last);
  found = λ a place whole bytes inside is.
      let (n, is_n, later) = then-ok (N.read place whole) (λ n. (F n.0).read n.1 whole) a is in
      let one = number.found n place whole bytes inside is_n in
      let two = (f n.0).found a n.1 whole bytes one.inside later in
      subst (λ (k : ℕ). IsAhead place a.1 (λ m. N.bytes k ((F k).bytes a.0 m)) (N.Fits k × (F k).Fits a.0) whole) (sym (sized n.0 a.0 two.fits)) (ahead-join one two);
  grows = λ a more. omega (arith, (f (count a)).grows a more, number.grows (count a) ((F (count a)).bytes a more));
}

pub data32-laws : HasLaws (List ℕ) data32 4
data32-laws = counted-laws (λ t. length t) exactly (λ n t fits. fits) number32-laws exactly-laws

pub text-laws : HasLaws (List ℕ) text 4
text-laws = record {
  again = λ t place more whole from fits.
      let (next, is, rest) = data32-laws.again t place more whole from fits.0 in (
        next,
        step (data32.read place whole) (t, next) _ is ∙ holds (is_general_string t) _ _ fits.1,
        rest,
      );
  found = λ a place whole bytes inside is.
      let (t, is_t, judged) = then-ok (data32.read place whole) _ a is in
      let (general, same) = if-not (is_general_string t.0) _ t a judged in
      subst (IsThere text place whole) same (ahead-as (λ fits. (fits, general)) (data32-laws.found t place whole bytes inside is_t));
  grows = data32-laws.grows;
}
