use Rattle.std.proofs.Common.{◌<◌, length, arith}
use Rattle.std.proofs.lemmas.Bool.Decides.{nat_tests}
use Rattle.asn1_leaves.proofs.NumberLemmas.{numbers-push, numbers-pop, no_numbers, length-subidentifier}
use Rattle.asn1_leaves.proofs.number.are_numbers.Goals as goal

pub returns-in_default : goal.returns-in_default
returns-in_default c =
    let some : 0 < length c.loop-rest.rest.now = grind (arith, nat_tests, c.loop-rest-test.ensures) in
    (λ wrong. absurd (let no : ⊥ = cc in no), λ whole. absurd (no_numbers c.loop-rest.rest.now c.in_default.ensures some (c.loop-rest.invariant.rest whole)))

pub loop-rest-smaller : goal.loop-rest-smaller
loop-rest-smaller c = length-subidentifier _ _ _ c.in-Some.ensures.1

pub loop-rest-preserved : goal.loop-rest-preserved
loop-rest-preserved c =
    record {
      whole = λ more. c.loop-rest.invariant.whole (numbers-push _ _ _ c.in-Some.ensures.0 c.in-Some.ensures.1 more);
      rest = λ whole. numbers-pop _ _ _ c.in-Some.ensures.1 (c.loop-rest.invariant.rest whole);
    }
