use Rattle.krb_realm_files.proofs.Sources.{by_realm, some_realm}
use Rattle.krb_realm_files.proofs.answer.answer_for.Goals as goal

pub returns-clause-answer : goal.returns-clause-answer
returns-clause-answer g c = λ all holds.
    by_realm c.args.realm.now all c.args.message.now c.args.moment c.args.words.now c.answer_observed.result (c.answer_observed.ensures.answer all holds)

pub returns-clause-some : goal.returns-clause-some
returns-clause-some g c = some_realm c.args.realm.now c.args.message.now c.args.moment c.args.words.now c.answer_observed.result c.answer_observed.ensures.some
