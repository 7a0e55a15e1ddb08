-- What is laid out is read.
use Rattle.std.proofs.Common.{◌≡◌, ℕ, ◌+◌, ◌-◌, ◌^◌, ◌<◌, ◌≤◌, List, [], ◌∷◌, ◌++◌, length, take, drop, Result, Ok, nat_lt, nat_eq, if◌then◌else◌, refl, ap, ◌∙◌, arith}
use Rattle.std.proofs.lemmas.List.{length-append}
use Rattle.asn1_leaves.specs.CharSets.{is_general_string}
use Rattle.byte_streams.specs.Numbers.{be16}
use Rattle.byte_streams.proofs.NumberLaws.{length-be16}
use Rattle.krb_file_formats.specs.Numbers.{be32, be32_at}
use Rattle.krb_file_formats.specs.Entries.{Entry, Fits, FitsText, TextsFit, counted, texts_bytes, texts_size, name_bytes, fixed_bytes, record_body, kvno_of}
use Rattle.krb_file_formats.specs.Reading.{and_then, number_at, fitting, count_at, octets_at, text_judged, text_at, texts_at, components_at, name_at, fixed_at, kvno_at, keyed_at, entry_at}
use Rattle.krb_file_formats.specs.declared.fault.KeytabFault.{KeytabFault}
use Rattle.krb_file_formats.specs.declared.reading.Fixed.{Fixed}
use Rattle.krb_file_formats.proofs.NumberLaws.{length-be32, be16-first, be32-first, be32_at-drop}
use Rattle.krb_file_formats.proofs.PlaceLaws.{IsFrom, behind, from-at, left, front, octet-first, passes, holds, not-below}

-- one step of a reading
pub step : {A B E : Type 0} (r : Result A E) (a : A) (next : A → Result B E) → r ≡ Ok a → and_then r next ≡ next a
step {A = A} {E = E} r a next is = ap (λ (x : Result A E). and_then x next) is

-- behind a number of 32 bits
pub behind-four : (place n : ℕ) (more whole : List ℕ) → IsFrom place (be32 n ++ more) whole → IsFrom (place + 4) more whole
behind-four place n more whole from = behind place (place + 4) (be32 n) more whole (omega (arith, length-be32 n)) from

-- what is laid out at a place is read, and behind it is this
abbrev pub IsAgain : {A : Type 0} → Result A KeytabFault → A → ℕ → List ℕ → List ℕ → Type 0
IsAgain result a next more whole = (result ≡ Ok a) × IsFrom next more whole

number-again : (place n : ℕ) (more whole : List ℕ) → IsFrom place (be16 n ++ more) whole → n < 2 ^ 16 → IsAgain (number_at place whole) n (place + 2) more whole
number-again place n more whole from fits =
    let some : 2 ≤ length whole - place = omega (arith, left place (be16 n ++ more) whole from, length-append (be16 n) more, length-be16 n) in (
      passes (nat_lt (length whole - place) 2) _ _ (not-below 2 (length whole - place) some) ∙ ap (λ (m : ℕ). Ok m) (be16-first place n more whole from.rest fits),
      behind place (place + 2) (be16 n) more whole (omega (arith, length-be16 n)) from,
    )

counted-again : (place : ℕ) (t more whole : List ℕ) → IsFrom place (counted t more) whole → length t < 2 ^ 16
    → (count_at place whole ≡ Ok (length t)) × (take (length t) (drop (place + 2) whole) ≡ t) × IsFrom (place + (2 + length t)) more whole
counted-again place t more whole from fits =
    let (number, next) = number-again place (length t) (t ++ more) whole from fits in
    let some : length t ≤ length whole - (place + 2) = omega (arith, left (place + 2) (t ++ more) whole next, length-append t more) in (
      step (number_at place whole) (length t) (fitting place whole) number
          ∙ passes (nat_lt (length whole - (place + 2)) (length t)) _ _ (not-below (length t) (length whole - (place + 2)) some),
      front (place + 2) t more whole next,
      behind (place + 2) (place + (2 + length t)) t more whole (omega arith) next,
    )

octets-again : (place : ℕ) (t more whole : List ℕ) → IsFrom place (counted t more) whole → length t < 2 ^ 16
    → IsAgain (octets_at place whole) t (place + (2 + length t)) more whole
octets-again place t more whole from fits =
    let (count, same, next) = counted-again place t more whole from fits in
    (step (count_at place whole) (length t) (λ n. Ok (take n (drop (place + 2) whole))) count ∙ ap (λ (l : List ℕ). Ok l) same, next)

text-again : (place : ℕ) (t more whole : List ℕ) → IsFrom place (counted t more) whole → FitsText t
    → IsAgain (text_at place whole) t (place + (2 + length t)) more whole
text-again place t more whole from fits =
    let (count, same, next) = counted-again place t more whole from fits.size in (
      step (count_at place whole) (length t) (λ n. text_judged place (take n (drop (place + 2) whole))) count ∙ ap (text_judged place) same
          ∙ holds (is_general_string t) _ _ fits.characters,
      next,
    )

texts-again : (ts : List (List ℕ)) (place : ℕ) (more whole : List ℕ) → IsFrom place (texts_bytes ts more) whole → TextsFit ts
    → IsAgain (texts_at (length ts) place whole) ts (place + texts_size ts) more whole
texts-again [] place more whole from fits = (refl, from-at place (place + 0) more whole (omega arith) from)
texts-again (t ∷ ts) place more whole from fits =
    let next = place + (2 + length t) in
    let (one, from_next) = text-again place t (texts_bytes ts more) whole from fits.0 in
    let (others, from_end) = texts-again ts next more whole from_next fits.1 in (
      step (text_at place whole) t (λ x. and_then (texts_at (length ts) (place + (2 + length x)) whole) (λ xs. Ok (x ∷ xs))) one
          ∙ step (texts_at (length ts) next whole) ts (λ xs. Ok (t ∷ xs)) others,
      from-at (next + texts_size ts) (place + texts_size (t ∷ ts)) more whole (omega arith) from_end,
    )

-- the place behind the name
abbrev name_end : ℕ → Entry → ℕ
name_end place e = place + 4 + length e.realm + texts_size e.components

name-again : (place : ℕ) (e : Entry) (more whole : List ℕ) → IsFrom place (name_bytes e more) whole → Fits e
    → IsAgain (name_at place whole) (record { realm = e.realm; components = e.components; end = name_end place e }) (name_end place e) more whole
name-again place e more whole from fits =
    let begin = place + 4 + length e.realm in
    let (count, from_realm) = number-again place (length e.components) (counted e.realm (texts_bytes e.components more)) whole from fits.count in
    let (realm, behind_realm) = text-again (place + 2) e.realm (texts_bytes e.components more) whole from_realm fits.realm in
    let from_components = from-at (place + 2 + (2 + length e.realm)) begin (texts_bytes e.components more) whole (omega arith) behind_realm in
    let (components, from_end) = texts-again e.components begin more whole from_components fits.components in (
      step (number_at place whole) (length e.components) (λ n. and_then (text_at (place + 2) whole) (λ r. components_at n (place + 4 + length r) r whole)) count
          ∙ step (text_at (place + 2) whole) e.realm (λ r. components_at (length e.components) (place + 4 + length r) r whole) realm
          ∙ step (texts_at (length e.components) begin whole) e.components _ components,
      from_end,
    )

abbrev fixed_of : ℕ → ℕ → ℕ → ℕ → Fixed
fixed_of a b c d = record { name_type = a; timestamp = b; kvno = c; etype = d }

fixed-same : (a b c d p q r s : ℕ) → a ≡ p → b ≡ q → c ≡ r → d ≡ s → fixed_of a b c d ≡ fixed_of p q r s
fixed-same a b c d p q r s is_a is_b is_c is_d = λ i. record { name_type = is_a i; timestamp = is_b i; kvno = is_c i; etype = is_d i }

fixed-again : (place : ℕ) (e : Entry) (low : ℕ) (more whole : List ℕ) → IsFrom place (fixed_bytes e low more) whole → Fits e
    → IsAgain (fixed_at place whole) (fixed_of e.name_type e.timestamp low e.etype) (place + 11) more whole
fixed-again place e low more whole from fits =
    let timestamp = behind-four place e.name_type _ whole from in
    let at_low = behind (place + 4) (place + 8) (be32 e.timestamp) _ whole (omega (arith, length-be32 e.timestamp)) timestamp in
    let etype = behind (place + 8) (place + 9) (low ∷ []) _ whole (omega arith) at_low in
    let at_end = behind (place + 9) (place + 11) (be16 e.etype) more whole (omega (arith, length-be16 e.etype)) etype in
    let inside = at_end.inside in
    let some : 11 ≤ length whole - place = omega (arith, inside) in (
      passes (nat_lt (length whole - place) 11) _ _ (not-below 11 (length whole - place) some) ∙ ap (λ (f : Fixed). Ok f)
          (fixed-same _ _ _ _ _ _ _ _ (be32-first place e.name_type _ whole from.rest fits.name_type)
          (be32-first (place + 4) e.timestamp _ whole timestamp.rest fits.timestamp)
          (octet-first (place + 8) low _ whole at_low) (be16-first (place + 9) e.etype _ whole etype.rest fits.etype)),
      at_end,
    )

pub kvno-again : (place low : ℕ) (more whole : List ℕ) → IsFrom place more whole → kvno_at place low whole ≡ kvno_of low more
kvno-again place low more whole from =
    ap (λ (n : ℕ). if nat_lt n 4 then low else if nat_eq (be32_at place whole) 0 then low else be32_at place whole) (left place more whole from)
    ∙ ap (λ (n : ℕ). if nat_lt (length more) 4 then low else if nat_eq n 0 then low else n) (be32_at-drop place whole more from.rest)

abbrev with_kvno : Entry → ℕ → Entry
with_kvno e n = record { realm = e.realm; components = e.components; name_type = e.name_type; timestamp = e.timestamp; kvno = n; etype = e.etype; key = e.key }

keyed-same : (e : Entry) (n : ℕ) → n ≡ e.kvno → with_kvno e n ≡ e
keyed-same e n is = λ i. record { realm = e.realm; components = e.components; name_type = e.name_type; timestamp = e.timestamp; kvno = is i; etype = e.etype; key = e.key }

pub entry-again : (place : ℕ) (e : Entry) (low : ℕ) (rest whole : List ℕ) → IsFrom place (record_body e low rest) whole → Fits e → kvno_of low rest ≡ e.kvno
    → entry_at place whole ≡ Ok e
entry-again place e low rest whole from fits kvno =
    let end = name_end place e in
    let last = end + 11 + 2 + length e.key in
    let (name, from_fixed) = name-again place e (fixed_bytes e low (counted e.key rest)) whole from fits in
    let (fixed, from_key) = fixed-again end e low (counted e.key rest) whole from_fixed fits in
    let (key, behind_key) = octets-again (end + 11) e.key rest whole from_key fits.key in
    let left = from-at (end + 11 + (2 + length e.key)) last rest whole (omega arith) behind_key in
    step (name_at place whole) _ (λ n. and_then (fixed_at n.end whole) (λ f. keyed_at (n.end + 11) n f whole)) name
    ∙ step (fixed_at end whole) _ (λ f. keyed_at (end + 11) (record { realm = e.realm; components = e.components; end = end }) f whole) fixed
    ∙ step (octets_at (end + 11) whole) e.key _ key
    ∙ ap (λ (x : Entry). Ok x) (keyed-same e (kvno_at last low whole) (kvno-again last low rest whole left ∙ kvno))
