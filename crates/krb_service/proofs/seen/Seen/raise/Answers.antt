use Rattle.std.proofs.Common.{arith}
use Rattle.std.proofs.lemmas.Grind.{common_steps}
use Rattle.krb_service.proofs.Window.{all_recent, kept_recent, window_raised}
use Rattle.krb_service.proofs.seen.Seen.raise.Goals as goal

pub invariant_of-self : goal.invariant_of-self
invariant_of-self c =
    (c.self.invariant.0, c.self.invariant.1, all_recent _ _ c.self.inside.pairs.keys _ (kept_recent _ _ _ c.self.inside.pairs.keys _ (grind (arith, common_steps)) c.forget.ensures))

pub returns-clause-window : goal.returns-clause-window
returns-clause-window c admitted window =
    window_raised _ _ _ c.self.inside.pairs.keys _ admitted (grind (arith, common_steps))
    (kept_recent _ _ _ c.self.inside.pairs.keys _ (grind (arith, common_steps)) c.forget.ensures) (rw (← c.self.view_is) at window)
