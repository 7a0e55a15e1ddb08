use Rattle.std.proofs.Common.{◌<◌, length, refl, ap, ◌∙◌, arith}
use Rattle.std.proofs.lemmas.Bool.{false≢true}
use Rattle.std.proofs.lemmas.Bool.Decides.{nat_tests}
use Rattle.asn1_leaves.specs.ObjectIdentifier.{IsContent}
use Rattle.asn1_leaves.proofs.OidLemmas.{numbers-of_content, content-of_numbers}
use Rattle.asn1_leaves.proofs.oid.ObjectIdentifier.from_content.Goals as goal

pub returns-then-is_empty : goal.returns-then-is_empty
returns-then-is_empty c = λ arcs valid e.
    let some = (numbers-of_content arcs valid).1 in
    let same = ap length e in
    grind (arith, nat_tests, c.if-is_empty.ensures)

pub returns-then-not-are_numbers : goal.returns-then-not-are_numbers
returns-then-not-are_numbers c = λ arcs valid e.
    false≢true (c.if-not-are_numbers.ensures.1 (rw e at (numbers-of_content arcs valid).0))

-- what was copied is the content of an object identifier
content : (c : goal.In_ok-content) → IsContent c.in_ok-content.content.items
content c =
    let some : 0 < length c.args.content.now = grind (arith, nat_tests, c.if-is_empty.ensures) in
    rw c.in_ok-content.ensures.items (content-of_numbers c.args.content.now (c.if-not-are_numbers.ensures.0 refl) some)

pub invariant_of-result : goal.invariant_of-result
invariant_of-result c = content c

pub returns : goal.returns
returns c = ((content c).0, (content c).1 ∙ c.in_ok-content.ensures.items)
