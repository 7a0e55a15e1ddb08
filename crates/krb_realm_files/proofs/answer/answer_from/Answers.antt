use Rattle.std.proofs.Common.{sym, ◌∙◌}
use Rattle.krb_realm_files.proofs.Answered.{of_some, replied, told_from}
use Rattle.krb_realm_files.proofs.Refusing.{no_record, no_reply}
use Rattle.krb_realm_files.proofs.answer.answer_from.Goals as goal

pub returns-clause-answer : goal.returns-clause-answer
returns-clause-answer g c = λ bytes known.
    replied bytes c.args.message.now c.args.moment c.args.words.now c.in_ok-realm.realm c.answer_for-answered.result (c.in_ok-realm.ensures.said bytes known)
    (λ all looks. c.answer_for-answered.ensures.answer all (bytes, known, looks))

pub returns-clause-told : goal.returns-clause-told
returns-clause-told g c =
    told_from g.V.Observer.sees (g.F.ReadAt.content c.args.accounts.now.file) c.args.message.now _ _ c.in_ok-realm.realm c.answer_for-answered.result c.in_ok-realm.ensures.said
    c.answer_for-answered.ensures.told

pub returns-in_err-realm-clause-refusal : goal.returns-in_err-realm-clause-refusal
returns-in_err-realm-clause-refusal g c =
    no_record (g.F.ReadAt.content c.args.accounts.now.file) (g.F.ReadAt.fails c.args.accounts.now.file) c.args.message.now _ c.from_residual.result c.from_residual.ensures.1
    (sym c.begins_request.ensures.begins ∙ c.if-not-begins_request.false) c.in_err-realm.ensures.fault

pub returns-clause-refusal : goal.returns-clause-refusal
returns-clause-refusal g c =
    no_reply (g.F.ReadAt.content c.args.accounts.now.file) (g.F.ReadAt.fails c.args.accounts.now.file) c.args.message.now c.in_ok-realm.realm c.in_ok-realm.ensures.said c.answer_for-answered.result
    c.answer_for-answered.ensures.refusal

pub returns-clause-some : goal.returns-clause-some
returns-clause-some g c = of_some c.args.message.now c.args.moment c.args.words.now c.in_ok-realm.realm c.answer_for-answered.result c.answer_for-answered.ensures.some
