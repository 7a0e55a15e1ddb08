use Rattle.gss_acceptor.proofs.delegation.read_krb_cred.Goals as goal

pub returns-in-None : goal.returns-in-None
returns-in-None c =
    let none = rw c.in-None.is at c.in_ok-read.ensures in
    λ a p. none (record { 0 = a }) p
