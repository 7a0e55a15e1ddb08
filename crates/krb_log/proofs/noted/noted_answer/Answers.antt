use Rattle.krb_log.proofs.SeenEntries.{of_seen}
use Rattle.krb_log.proofs.noted.noted_answer.Goals as goal

pub returns-in-Ok-clause-entry : goal.returns-in-Ok-clause-entry
returns-in-Ok-clause-entry g c =
    let told = c.in-Ok.ensures.told in
    of_seen (g.O.Opens.opens c.args.realm.now.accounts.now) _ c.args.message.now c.in-Ok.reply.items _ told.0 told.2.0 told.2.2.0 told.1 told.2.1 told.2.2.1 told.2.2.2 told.2.2.3
