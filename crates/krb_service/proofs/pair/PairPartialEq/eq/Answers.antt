use Rattle.std.proofs.Common.{sym, ap, ◌∙◌}
use Rattle.std.specs.Ordering.{is_eq}
use Rattle.krb_service.specs.Pair.{pair_ties}
use Rattle.krb_service.proofs.pair.PairPartialEq.eq.Goals as goal

pub returns : goal.returns
returns c = c.is_eq.ensures ∙ ap is_eq c.cmp.ensures ∙ sym (pair_ties c.args.self.now c.args.other.now)
