use Rattle.gss_acceptor.proofs.Presented.{admitted, first, verified}
use Rattle.gss_acceptor.proofs.laws.established_as_presented.Goals as goal

pub returns-clause-first : goal.returns-clause-first
returns-clause-first c = first

pub returns-clause-admitted : goal.returns-clause-admitted
returns-clause-admitted c = admitted

pub returns-clause-verified : goal.returns-clause-verified
returns-clause-verified c = λ service after moment theirs random unverified choice accepted is x. verified unverified theirs choice accepted is x.1
