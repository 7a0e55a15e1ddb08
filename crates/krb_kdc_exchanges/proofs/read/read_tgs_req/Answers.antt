use Rattle.krb_kdc_exchanges.proofs.read.read_tgs_req.Goals as goal

pub returns-in-None : goal.returns-in-None
returns-in-None c = λ request writes. (rw c.in-None.is at c.in_ok-read.ensures) (record { 0 = request }) writes
