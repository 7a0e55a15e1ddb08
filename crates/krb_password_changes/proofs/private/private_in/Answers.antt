use Rattle.krb_password_changes.proofs.private.private_in.Goals as goal

pub returns-in-None : goal.returns-in-None
returns-in-None c =
    let none = rw c.in-None.is at c.in_ok-read.ensures in
    λ a p. none (record { 0 = a }) p
