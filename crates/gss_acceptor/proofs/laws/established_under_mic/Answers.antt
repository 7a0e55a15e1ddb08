use Rattle.gss_acceptor.proofs.Verified.{first, later}
use Rattle.gss_acceptor.proofs.laws.established_under_mic.Goals as goal

pub returns-clause-first : goal.returns-clause-first
returns-clause-first c = first

pub returns-clause-later : goal.returns-clause-later
returns-clause-later c = later
