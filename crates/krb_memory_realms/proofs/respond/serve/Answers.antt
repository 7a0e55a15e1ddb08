use Rattle.krb_memory_realms.proofs.respond.serve.Goals as goal

pub returns-clause-accounts : goal.returns-clause-accounts
returns-clause-accounts g c = λ e. (c.serve.ensures.accounts e).1
