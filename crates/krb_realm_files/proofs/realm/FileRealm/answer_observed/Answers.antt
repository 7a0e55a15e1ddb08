use Rattle.krb_realm_files.proofs.Refusing.{lacking}
use Rattle.krb_realm_files.proofs.realm.FileRealm.answer_observed.Goals as goal

pub returns-in-Ok-answered-clause-reply : goal.returns-in-Ok-answered-clause-reply
returns-in-Ok-answered-clause-reply g c = (c.in-Ok-answered.ensures.some, (c.in-Ok.file, c.in-Ok.ensures, c.in-Ok-answered.ensures.answer))

pub returns-in-Err-answered-clause-accounts : goal.returns-in-Err-answered-clause-accounts
returns-in-Err-answered-clause-accounts g c =
    lacking (g.O.Opens.opens c.args.self.now.accounts.now) (g.O.Opens.fails c.args.self.now.accounts.now) g.O.File.ReadAt.content g.O.File.ReadAt.fails c.in-Ok.file
    c.args.message.now c.in-Err-answered.refusal c.reported.result c.in-Ok.ensures c.reported.ensures c.in-Err-answered.ensures.refusal
