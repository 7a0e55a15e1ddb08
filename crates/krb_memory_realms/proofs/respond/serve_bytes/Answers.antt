use Rattle.krb_memory_realms.proofs.respond.serve_bytes.Goals as goal

pub returns-clause-devices : goal.returns-clause-devices
returns-clause-devices g c = λ memory. c.serve_bytes.ensures.devices memory (λ e. (c.serve_bytes.ensures.accounts e).1)

pub returns-clause-accounts : goal.returns-clause-accounts
returns-clause-accounts g c = λ e. (c.serve_bytes.ensures.accounts e).1
