use Rattle.std.proofs.Common.{◌∙◌}
use Rattle.krb_service.proofs.Window.{near_is_recent, among_held, found_same}
use Rattle.krb_service.proofs.seen.Seen.contains.Goals as goal

pub returns-clause-held : goal.returns-clause-held
returns-clause-held c = rw (← c.self.view_is) (c.contains.ensures ∙ found_same c.args.pair.now c.self.inside.pairs.keys)

pub returns-clause-admitted : goal.returns-clause-admitted
returns-clause-admitted c admitted window near =
    c.contains.ensures ∙ found_same c.args.pair.now c.self.inside.pairs.keys
    ∙ among_held _ _ _ admitted c.args.pair.now (rw (← c.self.view_is) at window) (near_is_recent _ _ c.args.pair.now (rw (← c.self.view_is) at near))
