use Rattle.std.proofs.Common.{sym, ◌∙◌}
use Rattle.krb_client_exchanges.proofs.Answering.{answered_by_error, answered_by_reply}
use Rattle.krb_client_exchanges.proofs.answer.hint_in_answer.Goals as goal

pub returns-then-is_unreadable : goal.returns-then-is_unreadable
returns-then-is_unreadable c =
    rw c.answered.ensures
    (answered_by_reply c.args.suites.now c.args.answer.now c.key_hint-hinted.result c.key_hint_of_reply.result (sym c.is_unreadable.ensures ∙ c.if-is_unreadable.true)
    c.key_hint-hinted.ensures c.key_hint_of_reply.ensures)

pub returns : goal.returns
returns c =
    rw c.answered-2.ensures
    (answered_by_error c.args.suites.now c.args.answer.now c.key_hint-hinted.result (sym c.is_unreadable.ensures ∙ c.if-is_unreadable.false) c.key_hint-hinted.ensures)
