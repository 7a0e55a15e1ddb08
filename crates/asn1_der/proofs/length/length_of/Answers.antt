use Rattle.std.proofs.Common.{◌≡◌, ℕ, ◌-◌, ◌<◌, ◌≤◌, List, length, drop, take, get_or, sym, ap, ◌∙◌, true≢false, inl, inr, arith, length-drop}
use Rattle.std.proofs.Math.Seq.{take-length}
use Rattle.std.proofs.lemmas.Bool.{cases_lt}
use Rattle.std.proofs.lemmas.Slice.Eq.{bytes_eq-Decides}
use Rattle.std.specs.Int.Digits.{number_from_digits}
use Rattle.asn1_der.specs.Length.{length_octets}
use Rattle.asn1_der.proofs.Digits.{number-digits, length-digits-step}
use Rattle.asn1_der.proofs.Elements.{length_octets-short, length_octets-long, length-length_octets-ge, length-length_octets-le}
use Rattle.asn1_der.proofs.length.length_of.Goals as goal
use Rattle.asn1_der.proofs.length.length_of.Goals.{in-len1, in-len1-up}

-- the digits are all octets but the first
behind_first : (octets : List ℕ) → take (length octets - 1) (drop 1 octets) ≡ drop 1 octets
behind_first octets = ap (λ k. take k (drop 1 octets)) (sym (length-drop 1 octets)) ∙ take-length (drop 1 octets)

-- the number that is read is the one whose length octets these are
read_short : (n : ℕ) → length (length_octets n) < 2 → get_or (length_octets n) 0 0 ≡ n
read_short n one =
    elim (cases_lt n 128) [
      | inl small ↦ ap (λ octets. get_or octets 0 0) (length_octets-short n small)
      | inr large ↦ (let step = length-digits-step n (omega arith) in let count = ap length (length_octets-long n large) in absurd (omega arith))
    ]

read_long : (n : ℕ) → 2 ≤ length (length_octets n) → number_from_digits 256 (drop 1 (length_octets n)) ≡ n
read_long n more =
    elim (cases_lt n 128) [
      | inl small ↦ (let count = ap length (length_octets-short n small) in absurd (omega arith))
      | inr large ↦ (ap (λ octets. number_from_digits 256 (drop 1 octets)) (length_octets-long n large) ∙ number-digits n)
    ]

pub returns-in_default : goal.returns-in_default
returns-in_default c = λ n small e.
    let least = length-length_octets-ge n in
    let count = ap length e in
    let none = c.in_default.len_below in
    omega arith

pub returns-in_default-2 : goal.returns-in_default-2
returns-in_default-2 c = λ n small e.
    let most = length-length_octets-le n small in
    let count = ap length e in
    let behind = ap length (behind_first c.args.octets.now) ∙ length-drop 1 c.args.octets.now in
    let more = c.if-digits-le-MOST_DIGITS.false in
    omega arith

pub returns-else-eq : goal.returns-else-eq
returns-else-eq c = λ n small e.
    let number_is : c.if-octets-lt2.number ≡ n =
    elim c.if-octets-lt2.branch [
      | in-len1 w ↦
          w.number-is
          ∙ ap (λ octets. get_or octets 0 0) (sym e)
          ∙ read_short n (let count = ap length e in let one = w.in-len1.len_below in omega arith)
      | in-len1-up w ↦
          w.number-is
          ∙ w.number_of-number.ensures
          ∙ ap (number_from_digits 256) (behind_first c.args.octets.now)
          ∙ ap (λ octets. number_from_digits 256 (drop 1 octets)) (sym e)
          ∙ read_long n (let count = ap length e in let more = w.in-len1-up.len_at_least in omega arith)
    ] in
    let same = c.as_bytes.ensures ∙ c.of.ensures ∙ ap length_octets number_is ∙ e in
    let equal = c.eq.ensures ∙ (bytes_eq-Decides c.as_bytes.result.now c.args.octets.now).1 same in
    true≢false (sym equal ∙ c.if-eq.false)
