use Rattle.gss_acceptor.proofs.Delegations.{of_opened, of_unopened}
use Rattle.gss_acceptor.proofs.delegation.opened_cred.Goals as goal

pub returns-in-Ok : goal.returns-in-Ok
returns-in-Ok c = of_opened c.args.key.now c.args.message c.in-Ok.part c.delegated_by.result c.in-Ok.ensures c.delegated_by.ensures

pub returns-in-Err : goal.returns-in-Err
returns-in-Err c = of_unopened c.args.key.now c.args.message c.in-Err.refusal c.in-Err.ensures
