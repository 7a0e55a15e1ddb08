use Rattle.gss_acceptor.proofs.Delegations.{of_cred, of_no_cred}
use Rattle.gss_acceptor.proofs.delegation.cred_in.Goals as goal

pub returns-in-Some : goal.returns-in-Some
returns-in-Some c =
    let is = rw c.in-Some.is at c.in_ok-read.ensures in
    of_cred c.args.key.now c.args.deleg.now c.in-Some.message c.opened_cred.result is c.opened_cred.ensures

pub returns-in-None : goal.returns-in-None
returns-in-None c =
    let none = rw c.in-None.is at c.in_ok-read.ensures in
    of_no_cred c.args.key.now c.args.deleg.now none
