use Rattle.std.proofs.Common.{◌∙◌, sym, arith}
use Rattle.std.proofs.lemmas.Grind.{common_steps}
use Rattle.krb_service.proofs.Window.{none_early}
use Rattle.krb_service.proofs.seen.forget.Goals as goal

pub returns-then-oldest-micros : goal.returns-then-oldest-micros
returns-then-oldest-micros c =
    sym (none_early c.args.oldest c.in-Some.first.now c.pairs.pairs.keys (grind (arith, common_steps)) c.in-Some.ensures.all_from) ∙ sym c.pairs.invariant
