use Rattle.std.proofs.Common.{Ok, Err}
use Rattle.decision_tables.specs.Tables.{done}
use Rattle.krb_client.specs.Client.{ClientRecord}
use Rattle.krb_client.specs.declared.by_key.ByKey.{ByKey}
use Rattle.krb_client_exchanges.specs.AnswerHints.{hint_in_answer}
use Rattle.krb_client_exchanges.specs.Courses.{◌>>=◌, judged}
use Rattle.krb_client_exchanges.specs.Logins.{after_hint}
use Rattle.krb_client_exchanges.specs.SharedKeys.{keyed_by}
use Rattle.krb_client_exchanges.specs.declared.answer.AnswerHint.{AnswerHint}
use Rattle.krb_client_exchanges.specs.declared.fault.LoginRefusal.TheVariants.{NotHinted}
use Rattle.krb_client_exchanges.proofs.Running.{runs-exit, runs-judged, runs-then}
use Rattle.krb_client_exchanges.proofs.login.after_first.Goals as goal

pub returns-in_err-answer : goal.returns-in_err-answer
returns-in_err-answer g c =
    let own = λ (answer : AnswerHint) (made : ClientRecord × ByKey). after_hint {F = g.row.K-Fault.Denot} c.args.suites.now (c.args.asked.now, c.args.reply.now) made answer.is_reply in
    runs-exit (λ (answer : AnswerHint). judged (λ refusal. refusal) (done (keyed_by c.args.client.now c.args.secret answer.hint)) >>= own answer)
    c.from_residual.result c.from_residual.ensures.1
    (runs-judged NotHinted (hint_in_answer c.args.suites.now c.args.reply.now) _ (Err c.in_err-answer.field-0.0) c.in_err-answer.ensures)

pub returns-in_err-own : goal.returns-in_err-own
returns-in_err-own g c =
    let own = λ (answer : AnswerHint) (made : ClientRecord × ByKey). after_hint {F = g.row.K-Fault.Denot} c.args.suites.now (c.args.asked.now, c.args.reply.now) made answer.is_reply in
    runs-then (λ (answer : AnswerHint). judged (λ refusal. refusal) (done (keyed_by c.args.client.now c.args.secret answer.hint)) >>= own answer)
    (runs-judged NotHinted (hint_in_answer c.args.suites.now c.args.reply.now) _ (Ok c.in_ok-answer.answer) c.in_ok-answer.ensures)
    (runs-exit (own c.in_ok-answer.answer) c.from_residual-in_err-own.result c.from_residual-in_err-own.ensures.1
    (runs-judged (λ refusal. refusal) (done (keyed_by c.args.client.now c.args.secret c.in_ok-answer.answer.hint)) _ (Err c.in_err-own.field-0.0) c.in_err-own.ensures))

pub returns : goal.returns
returns g c =
    let own = λ (answer : AnswerHint) (made : ClientRecord × ByKey). after_hint {F = g.row.K-Fault.Denot} c.args.suites.now (c.args.asked.now, c.args.reply.now) made answer.is_reply in
    runs-then (λ (answer : AnswerHint). judged (λ refusal. refusal) (done (keyed_by c.args.client.now c.args.secret answer.hint)) >>= own answer)
    (runs-judged NotHinted (hint_in_answer c.args.suites.now c.args.reply.now) _ (Ok c.in_ok-answer.answer) c.in_ok-answer.ensures)
    (runs-then (own c.in_ok-answer.answer)
    (runs-judged (λ refusal. refusal) (done (keyed_by c.args.client.now c.args.secret c.in_ok-answer.answer.hint)) _ (Ok (c.in_ok-own.own, c.in_ok-own.means)) c.in_ok-own.ensures)
    c.after_hint.ensures)
