use Rattle.krb_service.proofs.keytab_service.service.KeytabServiceAdmitter.admit_request.Goals as goal

pub returns : goal.returns
returns c =
    let told = c.admit_with.ensures in
    record { greatest = told.greatest; skew = told.skew; rest = told.rest; remembers = told.remembers }
