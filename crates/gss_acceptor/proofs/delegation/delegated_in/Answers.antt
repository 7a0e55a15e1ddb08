use Rattle.std.proofs.Common.{sym, ◌∙◌}
use Rattle.gss_acceptor.proofs.Delegations.{of_deleg, of_no_deleg, of_no_key}
use Rattle.gss_acceptor.proofs.delegation.delegated_in.Goals as goal

pub returns-in_default : goal.returns-in_default
returns-in_default c =
    let none = rw c.in_default.is at c.deleg_in.ensures in
    of_no_deleg c.args.session.now c.args.octets.now (sym none)

pub returns-in_default-key_of : goal.returns-in_default-key_of
returns-in_default-key_of c =
    of_no_key c.args.session.now c.args.octets.now c.in-Some.deleg.now (sym c.in-Some.ensures) (sym c.key_of.ensures ∙ c.in_default-key_of.is)

pub returns : goal.returns
returns c =
    of_deleg c.args.session.now c.args.octets.now c.in-Some.deleg.now c.in-Some-key_of.key c.cred_in.result (sym c.in-Some.ensures) (sym c.key_of.ensures ∙ c.in-Some-key_of.is)
    c.cred_in.ensures
