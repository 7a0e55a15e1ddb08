use Rattle.std.proofs.Common.{subst}
use Rattle.krb_service.specs.Seen.{IsWindow, SeenRecord}
use Rattle.krb_service.proofs.Window.{own_window}
use Rattle.krb_service.proofs.seen.Seen.holds_window.Goals as goal

pub returns : goal.returns
returns c =
    subst (λ (s : SeenRecord). IsWindow s s.held) c.self.view_is (own_window c.self.inside.skew c.self.inside.greatest c.self.inside.pairs.keys c.self.invariant.2)
