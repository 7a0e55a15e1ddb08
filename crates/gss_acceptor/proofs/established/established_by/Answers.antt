use Rattle.std.proofs.Common.{sym}
use Rattle.gss_acceptor.proofs.Delegations.{as_judged}
use Rattle.gss_acceptor.proofs.established.established_by.Goals as goal

pub returns-in-Ok : goal.returns-in-Ok
returns-in-Ok c =
    as_judged c.args.terms.now c.args.skew c.args.words.now c.args.admission c.in-Ok.judged c.established_as.result (sym c.in-Ok.ensures) c.established_as.ensures
