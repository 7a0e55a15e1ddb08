use Rattle.std.proofs.Common.{◌≡◌, ℕ, ◌+◌, ◌-◌, ◌/◌, ◌%◌, ◌^◌, ◌<◌, ◌≤◌, List, [], ◌∷◌, ◌++◌, length, drop, set, sym, ap, ◌∙◌, append_assoc, arith, length-append, length-drop}
use Rattle.std.proofs.lemmas.List.{drop-set}
use Rattle.asn1_der.specs.Length.{digits}
use Rattle.asn1_der.proofs.Digits.{digits-zero, digits-step, length-digits-le}
use Rattle.asn1_der.proofs.length.put_digits.Goals as goal

-- there is room before the digits so far for those that are left, and for one octet more
room : (number rest start : ℕ) (octets : List ℕ) → number < 2 ^ 64 → length octets ≡ 9 → start ≤ 9 → digits number ≡ digits rest ++ drop start octets → length (digits rest) + 1 ≤ start
room number rest start octets small nine place written =
    let most = length-digits-le number small in
    let sum : length (digits number) ≡ length (digits rest) + (length octets - start) =
    ap length written ∙ length-append (digits rest) (drop start octets) ∙ ap (λ n. length (digits rest) + n) (length-drop start octets) in
    omega arith

-- one digit more is written
another : (number rest start : ℕ) (octets : List ℕ) → 0 < rest → 1 ≤ start → start ≤ 9 → length octets ≡ 9 → digits number ≡ digits rest ++ drop start octets → digits number ≡ digits (rest / 256) ++ drop (start - 1) (set octets (start - 1) (rest % 256))
another number rest start octets positive some place nine written =
    let back : start - 1 + 1 ≡ start = omega arith in
    let after : drop (start - 1) (set octets (start - 1) (rest % 256)) ≡ rest % 256 ∷ drop start octets =
    drop-set octets (start - 1) (rest % 256) (omega arith) ∙ ap (λ n. rest % 256 ∷ drop n octets) back in
    written
    ∙ ap (λ front. front ++ drop start octets) (digits-step rest positive)
    ∙ append_assoc (digits (rest / 256)) (rest % 256 ∷ []) (drop start octets)
    ∙ ap (λ back'. digits (rest / 256) ++ back') (sym after)

pub overflow_sub-start : goal.overflow_sub-start
overflow_sub-start c =
    let enough = room c.args.number c.loop-rest.rest c.loop-rest.start c.loop-rest.octets c.ranges.number.fits (omega arith) c.loop-rest.invariant.place c.loop-rest.invariant.written in
    omega arith

pub loop-rest-preserved : goal.loop-rest-preserved
loop-rest-preserved c =
    let enough = room c.args.number c.loop-rest.rest c.loop-rest.start c.loop-rest.octets c.ranges.number.fits (omega arith) c.loop-rest.invariant.place c.loop-rest.invariant.written in
    record {
      place = omega arith;
      written = another c.args.number c.loop-rest.rest c.loop-rest.start c.loop-rest.octets (omega arith) (omega arith) (omega arith) (omega arith) c.loop-rest.invariant.written;
    }

pub returns-clause-first : goal.returns-clause-first
returns-clause-first c =
    let enough = room c.args.number c.loop-rest.rest c.loop-rest.start c.loop-rest.octets c.ranges.number.fits (omega arith) c.loop-rest.invariant.place c.loop-rest.invariant.written in
    omega arith

pub returns-clause-after : goal.returns-clause-after
returns-clause-after c =
    let none : c.loop-rest.rest ≡ 0 = omega arith in
    let no_digits : digits c.loop-rest.rest ≡ [] = ap digits none ∙ digits-zero in
    sym (c.loop-rest.invariant.written ∙ ap (λ front. front ++ drop c.loop-rest.start c.loop-rest.octets) no_digits)
