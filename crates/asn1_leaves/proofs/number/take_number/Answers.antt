use Rattle.std.proofs.Common.{◌≡◌, ℕ, ◌+◌, ◌*◌, ◌%◌, ◌<◌, List, [], ◌∷◌, ◌++◌, length, get_or, take, drop, sym, ap, ◌∙◌, arith}
use Rattle.std.specs.Int.Digits.{digits_of}
use Rattle.std.proofs.lemmas.List.{take-append-drop, take_all, take_more, take_rest}
use Rattle.asn1_leaves.specs.ObjectIdentifier.{subidentifier}
use Rattle.asn1_leaves.proofs.NumberLemmas.{marked, no_room, no_end, no_zero_first, another_digit, last_digit}
use Rattle.asn1_leaves.proofs.number.take_number.Goals as goal
use Rattle.asn1_leaves.proofs.number.take_number.Goals.{else-i-eq0-via-then-i-eq0+else-octet, else-i-eq0-via-else-i-eq0}

-- the octets in front, the next one and what follows
parts : (octets digits : List ℕ) (i : ℕ) → take i octets ≡ marked digits → i < length octets → (marked digits ++ get_or octets i 0 ∷ []) ++ drop (i + 1) octets ≡ octets
parts octets digits i front inside =
    ap (λ xs. (xs ++ get_or octets i 0 ∷ []) ++ drop (i + 1) octets) (sym front)
    ∙ ap (λ xs. xs ++ drop (i + 1) octets) (sym (take_more octets i 0 inside))
    ∙ take-append-drop (i + 1) octets

-- an octet at the place 0 is the first
first : (octets : List ℕ) (i octet : ℕ) → i ≡ 0 → i < length octets → get_or octets i 0 ≡ octet → octets ≡ octet ∷ drop 1 octets
first [] i octet none inside e = absurd (omega arith)
first (x ∷ octets) i octet none inside e = ap (λ y. y ∷ octets) (sym (ap (λ k. get_or (x ∷ octets) k 0) none) ∙ e)

pub returns-then-octet : goal.returns-then-octet
returns-then-octet c = λ n rest small e.
    let octets = c.args.octets.now in
    no_zero_first n (drop 1 octets) rest (e ∙ first octets c.loop-i.i 128 c.if-i-eq0.true c.loop-i-test.true c.if-octet.true)

pub returns-then-number-ge-FULL : goal.returns-then-number-ge-FULL
returns-then-number-ge-FULL c = λ n rest small e.
    let octets = c.args.octets.now in
    no_room c.loop-i.number n (drop c.loop-i.i octets) rest c.if-number-ge-FULL.true small
    (e ∙ sym (take-append-drop c.loop-i.i octets) ∙ ap (λ front. front ++ drop c.loop-i.i octets) c.loop-i.invariant.front)

pub returns-then-octet-lt128 : goal.returns-then-octet-lt128
returns-then-octet-lt128 c =
    let octets = c.args.octets.now in
    let number = c.loop-i.number * 128 + get_or octets c.loop-i.i 0 % 128 in (
      omega arith,
      ap (λ xs. subidentifier number ++ xs) (take_rest octets (c.loop-i.i + 1))
          ∙ ap (λ xs. xs ++ drop (c.loop-i.i + 1) octets) (last_digit c.loop-i.number (get_or octets c.loop-i.i 0) c.if-octet-lt128.true)
          ∙ parts octets (digits_of 128 c.loop-i.number) c.loop-i.i c.loop-i.invariant.front c.loop-i-test.true,
    )

pub loop-i-preserved : goal.loop-i-preserved
loop-i-preserved c =
    let octets = c.args.octets.now in
    let octet = get_or octets c.loop-i.i 0 in
    let byte = (c.type_inv.octets c.loop-i.i).fits in
    let positive : 0 < c.loop-i.number * 128 + octet % 128 =
    elim c.else-i-eq0.branch [
      | else-i-eq0-via-then-i-eq0+else-octet w ↦ omega arith
      | else-i-eq0-via-else-i-eq0 w ↦ omega arith
    ] in
    record {
      front =
          take_more octets c.loop-i.i 0 c.loop-i-test.true
          ∙ ap (λ xs. xs ++ octet ∷ []) c.loop-i.invariant.front
          ∙ sym (another_digit c.loop-i.number octet c.if-octet-lt128.false positive byte);
      begun = λ _. positive;
    }

pub returns : goal.returns
returns c = λ n rest small e.
    no_end c.loop-i.number n rest (e ∙ sym (take_all c.loop-i.i c.args.octets.now c.loop-i-test.false) ∙ c.loop-i.invariant.front)
