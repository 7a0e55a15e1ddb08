-- What a reply seals is bytes: short elements, one in the other.
use Rattle.std.proofs.Common.{◌≡◌, ◌<◌, ◌≤◌, ℕ, zero, suc, ◌+◌, ◌/◌, ◌%◌, Bool, true, false, List, [], ◌∷◌, ◌++◌, length, nat_lt, refl, sym, subst, if◌then◌else◌, arith}
use Rattle.std.specs.Prelude.{ℤ, pos, slice_index_or}
use Rattle.std.specs.Int.Digits.{AllBelowBase, digits_of}
use Rattle.std.proofs.lemmas.Int.Digits.{all_below_base_digits_of, length-digits_of-le}
use Rattle.std.proofs.lemmas.List.{length-append}
use Rattle.asn1_der.specs.Length.{element, length_octets}
use Rattle.asn1_der.specs.Tree.{der}
use Rattle.asn1_leaves.specs.declared.date.GeneralizedTime.{GeneralizedTime}
use Rattle.asn1_leaves.specs.Calendar.{days_in_month, two_digits}
use Rattle.asn1_leaves.specs.GeneralizedTime.{time_text}
use Rattle.picky_asn1.specs.Integer.{integer_content, natural_octets}
use Rattle.block_ciphers.specs.Bytes.{IsBytes}
use Rattle.block_ciphers.proofs.States.{IsBytes-append, IsBytes-none}
use Rattle.krb_messages.specs.declared.data_types.authenticator.AuthenticatorInner.{AuthenticatorInner}
use Rattle.krb_service.specs.ApReply.{ap_rep_part}
use Rattle.krb_messages.specs.Messages.{enc_ap_rep_part_tree}

-- bytes, of which there are so many at most
record IsShort (n : ℕ) (s : List ℕ) : Type 0 where
  bytes : IsBytes s
  short : length s ≤ n

IsBytes-cons : (octet : ℕ) (s : List ℕ) → octet < 256 → IsBytes s → IsBytes (octet ∷ s)
IsBytes-cons octet s fits rest zero = fits
IsBytes-cons octet s fits rest (suc i) = rest i

short_element : (n first : ℕ) (content : List ℕ) → first < 256 → n < 128 → IsShort n content → IsShort (n + 2) (element first content)
unfolding element length_octets
short_element n first content fits few x =
    let one : nat_lt (length content) 128 ≡ true = grind (arith, x.short) in
    rw one (record { bytes = IsBytes-cons first (length content ∷ content) fits (IsBytes-cons (length content) content (omega (arith, x.short)) x.bytes); short = omega (arith, x.short) })

short_both : (m n : ℕ) (s t : List ℕ) → IsShort m s → IsShort n t → IsShort (m + n) (s ++ t)
short_both m n s t x y = record { bytes = IsBytes-append s t x.bytes y.bytes; short = omega (arith, length-append s t, x.short, y.short) }

-- with nothing behind it
short_alone : (n : ℕ) (s : List ℕ) → IsShort n s → IsShort n (s ++ [])
short_alone n s x = record { bytes = IsBytes-append s [] x.bytes IsBytes-none; short = omega (arith, length-append s [], x.short) }

below_bytes : (ds : List ℕ) → AllBelowBase 256 ds → IsBytes ds
below_bytes [] below = IsBytes-none
below_bytes (d ∷ ds) below = IsBytes-cons d ds below.0 (below_bytes ds below.1)

signed_short : (n : ℕ) (low : Bool) (ds : List ℕ) → IsShort n ds → IsShort (n + 1) (if low then ds else 0 ∷ ds)
signed_short n true ds x = record { bytes = x.bytes; short = omega (arith, x.short) }
signed_short n false ds x = record { bytes = IsBytes-cons 0 ds (omega arith) x.bytes; short = omega (arith, x.short) }

number_short : (n : ℕ) → n < 1000000 → IsShort 4 (integer_content (pos n))
unfolding integer_content natural_octets
number_short n few =
    signed_short 3 (nat_lt (slice_index_or (digits_of 256 n) 0 128) 128) (digits_of 256 n)
    (record { bytes = below_bytes (digits_of 256 n) (all_below_base_digits_of 256 n (omega arith)); short = length-digits_of-le 256 3 n (omega arith) (omega arith) })

two_short : (n : ℕ) → n < 100 → IsShort 2 (two_digits n)
two_short n few = record {
  bytes = IsBytes-cons (48 + n / 10) ((48 + n % 10) ∷ []) (omega arith) (IsBytes-cons (48 + n % 10) [] (omega arith) IsBytes-none);
  short = omega arith;
}

no_more_days : (year month : ℕ) → days_in_month year month ≤ 31
no_more_days year month = grind (arith)

time_short : (t : GeneralizedTime) → IsShort 15 (time_text t)
time_short t =
    let days = no_more_days t.year t.month in
    let a = two_short (t.year / 100) (omega (arith, t.on_calendar.0)) in
    let b = two_short (t.year % 100) (omega arith) in
    let c = two_short t.month (omega (arith, t.on_calendar.1.1)) in
    let d = two_short t.day (omega (arith, days, t.on_calendar.2.1)) in
    let e = two_short t.hour (omega (arith, t.on_clock.0)) in
    let f = two_short t.minute (omega (arith, t.on_clock.1)) in
    let g = two_short t.second (omega (arith, t.on_clock.2)) in
    let z : IsShort 1 (90 ∷ []) = record { bytes = IsBytes-cons 90 [] (omega arith) IsBytes-none; short = omega arith } in
    short_both 14 1 _ _ (short_both 12 2 _ _ (short_both 10 2 _ _ (short_both 8 2 _ _ (short_both 6 2 _ _ (short_both 4 2 _ _ (short_both 2 2 _ _ a b) c) d) e) f) g) z

-- the encoding of the reply's part
part_text : GeneralizedTime → ℤ → List ℕ
part_text time cusec =
    element 123 (element 48 (element 160 (element 24 (time_text time) ++ []) ++ (element 161 (element 2 (integer_content cusec) ++ []) ++ [])) ++ [])

part_text-bytes : (time : GeneralizedTime) (micros : ℕ) → micros < 1000000 → IsBytes (part_text time (pos micros))
unfolding part_text
part_text-bytes time micros few =
    let told = short_element 15 24 (time_text time) (omega arith) (omega arith) (time_short time) in
    let first = short_element 17 160 (element 24 (time_text time) ++ []) (omega arith) (omega arith) (short_alone 17 (element 24 (time_text time)) told) in
    let count = short_element 4 2 (integer_content (pos micros)) (omega arith) (omega arith) (number_short micros few) in
    let second = short_element 6 161 (element 2 (integer_content (pos micros)) ++ []) (omega arith) (omega arith) (short_alone 6 (element 2 (integer_content (pos micros))) count) in
    let both = short_both 19 8 (element 160 (element 24 (time_text time) ++ [])) (element 161 (element 2 (integer_content (pos micros)) ++ []) ++ []) first
    (short_alone 8 (element 161 (element 2 (integer_content (pos micros)) ++ [])) second) in
    let row = short_element 27 48 (element 160 (element 24 (time_text time) ++ []) ++ (element 161 (element 2 (integer_content (pos micros)) ++ []) ++ [])) (omega arith) (omega arith) both in
    (short_element 29 123 (element 48 (element 160 (element 24 (time_text time) ++ []) ++ (element 161 (element 2 (integer_content (pos micros)) ++ []) ++ [])) ++ []) (omega arith) (omega arith)
    (short_alone 29 (element 48 (element 160 (element 24 (time_text time) ++ []) ++ (element 161 (element 2 (integer_content (pos micros)) ++ []) ++ []))) row)).bytes

part_is : (a : AuthenticatorInner) → der (enc_ap_rep_part_tree (ap_rep_part a)) ≡ part_text a.ctime.0.0 a.cusec.0
unfolding part_text
part_is a = refl

pub part_bytes : (a : AuthenticatorInner) (micros : ℕ) → a.cusec.0 ≡ pos micros → micros < 1000000 → IsBytes (der (enc_ap_rep_part_tree (ap_rep_part a)))
part_bytes a micros same few =
    subst IsBytes (sym (part_is a)) (subst (λ z. IsBytes (part_text a.ctime.0.0 z)) (sym same) (part_text-bytes a.ctime.0.0 micros few))
