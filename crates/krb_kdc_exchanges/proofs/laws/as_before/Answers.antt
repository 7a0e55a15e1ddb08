use Rattle.krb_kdc_exchanges.proofs.Before.{as_plain, plain_as, plain_tgs, tgs_plain}
use Rattle.krb_kdc_exchanges.proofs.laws.as_before.Goals as goal

pub returns-clause-first : goal.returns-clause-first
returns-clause-first g c =
    λ call of_client of_service request r.
    (as_plain call request r (g.P.Pkinit.rows c.args.pkinit.now) of_client of_service, plain_as call request r (g.P.Pkinit.rows c.args.pkinit.now) of_client of_service)

pub returns-clause-further : goal.returns-clause-further
returns-clause-further g c = λ call request r. (tgs_plain call request r, plain_tgs call request r)
