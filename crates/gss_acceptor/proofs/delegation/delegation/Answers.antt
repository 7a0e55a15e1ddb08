use Rattle.std.proofs.Common.{sym, ◌∙◌}
use Rattle.gss_acceptor.proofs.Delegations.{of_bad, of_flag, of_no_flag}
use Rattle.gss_acceptor.proofs.delegation.delegation.Goals as goal

pub returns-then-not-is_set : goal.returns-then-not-is_set
returns-then-not-is_set c = of_no_flag c.args.flags c.args.session.now c.args.checksum.now (sym c.is_set.ensures ∙ c.if-not-is_set.true)

pub returns-in-Ok : goal.returns-in-Ok
returns-in-Ok c = of_flag c.args.flags c.args.session.now c.args.checksum.now c.in-Ok.delegated (sym c.is_set.ensures ∙ c.if-not-is_set.false) c.in-Ok.ensures

pub returns-in-Err : goal.returns-in-Err
returns-in-Err c = of_bad c.args.flags c.args.session.now c.args.checksum.now c.in-Err.refusal (sym c.is_set.ensures ∙ c.if-not-is_set.false) c.in-Err.ensures
