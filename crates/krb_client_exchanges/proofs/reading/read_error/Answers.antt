use Rattle.krb_client_exchanges.proofs.reading.read_error.Goals as goal

pub returns-in-None : goal.returns-in-None
returns-in-None c =
    let none = rw c.in-None.is at c.in_ok-read.ensures in
    λ error writes. none (record { 0 = error }) writes
