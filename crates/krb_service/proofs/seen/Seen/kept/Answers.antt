use Rattle.std.proofs.Common.{◌∙◌}
use Rattle.krb_service.proofs.Window.{count_held}
use Rattle.krb_service.proofs.seen.Seen.kept.Goals as goal

pub returns : goal.returns
returns c admitted window =
    rw (← c.self.view_is) (c.len.ensures.len ∙ count_held _ _ c.self.inside.pairs.keys admitted c.len.ensures.ordered (rw (← c.self.view_is) at window))
