use Rattle.std.proofs.Common.{sym, ◌∙◌}
use Rattle.gss_acceptor.proofs.Delegations.{of_no_part, of_part}
use Rattle.gss_acceptor.proofs.delegation.part_in.Goals as goal

pub returns-in-Some : goal.returns-in-Some
returns-in-Some c =
    let is = rw c.in-Some.is at c.in_ok-opened.ensures in
    of_part c.args.key.now c.args.message.now c.in-Some.part (sym c.is_krb_cred.ensures ∙ c.if-not-is_krb_cred.false) is

pub returns-in-None : goal.returns-in-None
returns-in-None c =
    let none = rw c.in-None.is at c.in_ok-opened.ensures in
    of_no_part c.args.key.now c.args.message.now (sym c.is_krb_cred.ensures ∙ c.if-not-is_krb_cred.false) none
