use Rattle.std.proofs.Common.{sym, ◌∙◌}
use Rattle.krb_service.proofs.Packing.{blocks_cmp, tied_times}
use Rattle.krb_service.proofs.pair.PairOrd.cmp.Goals as goal

pub returns-in-Equal : goal.returns-in-Equal
returns-in-Equal c =
    rw (← c.self.view_is, ← c.other.view_is)
    (tied_times _ _ _ (c.cmp-in-Equal.ensures ∙ blocks_cmp _ _ c.self.invariant c.other.invariant) (sym c.cmp.ensures ∙ c.in-Equal.is))
