use Rattle.krb_client_exchanges.proofs.secret.keyed_by.Goals as goal

pub returns-in-Password : goal.returns-in-Password
returns-in-Password g c = rw c.in-Password.is c.keyed_by_password.ensures
