use Rattle.std.proofs.Common.{◌≡◌, ℕ, ◌+◌, ◌-◌, ◌≤◌, List, ◌∷◌, length, drop, set, sym, ap, ◌∙◌, arith, length-drop}
use Rattle.std.proofs.lemmas.List.{drop-set}
use Rattle.asn1_der.specs.Length.{digits, length_octets}
use Rattle.asn1_der.proofs.Elements.{length_octets-short, length_octets-long}
use Rattle.asn1_der.proofs.length.LengthOctets.of.Goals as goal

-- the count of the digits, before them
counted : (n first : ℕ) (octets : List ℕ) → 128 ≤ n → 1 ≤ first → first ≤ 9 → length octets ≡ 9 → drop first octets ≡ digits n → drop (first - 1) (set octets (first - 1) (128 + (9 - first))) ≡ length_octets n
counted n first octets long some last nine written =
    let back : first - 1 + 1 ≡ first = omega arith in
    let count : 9 - first ≡ length (digits n) = ap (λ k. k - first) (sym nine) ∙ sym (length-drop first octets) ∙ ap length written in
    drop-set octets (first - 1) (128 + (9 - first)) (omega arith)
    ∙ ap (λ k. (128 + (9 - first)) ∷ drop k octets) back
    ∙ ap (λ rest. (128 + (9 - first)) ∷ rest) written
    ∙ ap (λ k. (128 + k) ∷ digits n) count
    ∙ sym (length_octets-long n long)

pub returns-then-length-lt128 : goal.returns-then-length-lt128
returns-then-length-lt128 c = sym (length_octets-short c.args.length c.if-length-lt128.true)

pub returns : goal.returns
returns c =
    counted c.args.length c.put_digits-first_digit.result c.put_digits-first_digit.new.octets c.if-length-lt128.false c.put_digits-first_digit.ensures.first c.put_digits-first_digit.ensures.last (omega arith) c.put_digits-first_digit.ensures.after
