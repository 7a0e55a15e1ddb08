use Rattle.std.proofs.Common.{◌≡◌, true, arith}
use Rattle.std.proofs.lemmas.Grind.{common_steps}
use Rattle.std.proofs.lemmas.Map.Views.{All-insert_key}
use Rattle.krb_service.specs.Pair.{PairRecord, pair_cmp, is_recent}
use Rattle.krb_service.proofs.Window.{late_is_recent, window_recorded}
use Rattle.krb_service.proofs.seen.Seen.record.Goals as goal

pub invariant_of-self-2 : goal.invariant_of-self-2
invariant_of-self-2 c = (
  c.self.invariant.0,
  c.self.invariant.1,
  rw c.in_ok-insert.ensures.keys
      (All-insert_key pair_cmp c.args.pair (λ (p : PairRecord). is_recent c.self.inside.skew c.self.inside.greatest p ≡ true) c.self.inside.pairs.keys c.self.invariant.2
      (late_is_recent c.self.inside.skew c.self.inside.greatest c.oldest.result c.args.pair (rw (← c.self.view_is) at c.oldest.ensures) (grind (arith, common_steps)))),
)

pub returns-clause-window : goal.returns-clause-window
returns-clause-window c admitted window =
    window_recorded c.self.inside.skew c.self.inside.greatest c.self.inside.pairs.keys _ admitted c.args.pair
    (late_is_recent c.self.inside.skew c.self.inside.greatest c.oldest.result c.args.pair (rw (← c.self.view_is) at c.oldest.ensures) (grind (arith, common_steps)))
    c.in_ok-insert.ensures.updates.0 (rw (← c.self.view_is) at window)
