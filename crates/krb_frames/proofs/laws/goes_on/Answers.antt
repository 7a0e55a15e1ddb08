use Rattle.std.proofs.Common.{inl, inr, refl}
use Rattle.krb_frames.proofs.Tolerating.{refuses_none}
use Rattle.krb_frames.proofs.laws.goes_on.Goals as goal

pub returns-clause-never : goal.returns-clause-never
returns-clause-never g c = λ responder. refuses_none (g.A.Responder.replies responder)

pub returns-clause-served : goal.returns-clause-served
returns-clause-served g c = λ responder start left written served. served.3.0.5.1

pub returns-clause-empty : goal.returns-clause-empty
returns-clause-empty g c = λ responder message moment words none. inr (refl, none)

pub returns-clause-reply : goal.returns-clause-reply
returns-clause-reply g c = λ responder message moment words reply replied. inl replied
