use Rattle.gss_contexts.proofs.sender.Sender.read.Goals as goal

pub returns-in-Sealed-clause-read : goal.returns-in-Sealed-clause-read
returns-in-Sealed-clause-read c = rw c.in-Sealed.is c.read_sealed.ensures.read
