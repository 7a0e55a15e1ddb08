use Rattle.std.proofs.Common.{◌≡◌, ◌≢◌, ◌≤◌, length, get_or, arith, sym, ◌∙◌}
use Rattle.std.proofs.lemmas.Bool.Decides.{nat_tests}
use Rattle.asn1_leaves.proofs.DottedLemmas.{arc-parsed, no_plus, no_needless_zero}
use Rattle.asn1_leaves.proofs.dotted.arc_of.Goals as goal

pub returns-then-has_needless_first : goal.returns-then-has_needless_first
returns-then-has_needless_first c = λ n small e.
    let text = e ∙ sym c.as_bytes.ensures.value in
    let plus = rw text at (no_plus n small) in
    let needless = rw text at (no_needless_zero n small) in
    grind (arith, nat_tests, c.if-has_needless_first.ensures, plus, needless)

pub returns : goal.returns
returns c =
    let text = c.as_bytes.ensures.value in
    let first : get_or c.args.text.now 0 0 ≢ 43 = λ e. grind (arith, nat_tests, c.if-has_needless_first.ensures) in
    let needless : get_or c.args.text.now 0 0 ≡ 48 → length c.args.text.now ≤ 1 = λ e. grind (arith, nat_tests, c.if-has_needless_first.ensures) in
    arc-parsed c.args.text.now c.parse.result c.ok.result c.parse.ensures.value.0 first needless c.ok.ensures.value
