use Rattle.std.proofs.Common.{Ok, Err}
use Rattle.decision_tables.specs.Tables.{as_made}
use Rattle.picky_asn1.specs.Bytes.{Bytes}
use Rattle.krb_crypto.specs.declared.suite.CipherSuite.{CipherSuite}
use Rattle.krb_client.specs.AsReply.{takes_as_reply}
use Rattle.krb_client.specs.Asked.{AsAskedRecord}
use Rattle.pkinit_clients.specs.AgileMeans.{by_agile_certificate}
use Rattle.krb_client_exchanges.specs.Grants.{taken_of_suites}
use Rattle.krb_client_exchanges.specs.AnswerHints.{suite_for}
use Rattle.krb_client_exchanges.specs.Courses.{◌>>=◌, judged}
use Rattle.krb_client_exchanges.specs.Logins.{granted_first}
use Rattle.krb_client_exchanges.specs.declared.fault.LoginRefusal.TheVariants.{NotHinted, NotTaken}
use Rattle.krb_client_exchanges.proofs.Running.{runs-exit, runs-judged, runs-then, runs-with}
use Rattle.krb_client_exchanges.proofs.agile.log_in_agile.Goals as goal

pub returns-in_err-octets : goal.returns-in_err-octets
returns-in_err-octets g c =
    let client = c.args.client.now in
    let means = by_agile_certificate c.args.own.now.certificate.now c.args.own.now.anchor.now (g.Y.KeyFunctions.functions c.args.own.now.keys.now) in
    let own = λ (first : Bytes × (AsAskedRecord × Bytes)) (suite : CipherSuite). granted_first {F = g.row.K-Fault.Denot} c.args.suites.now (record client { suite = suite }) (means first.0) first.1 in
    runs-exit (λ (first : Bytes × (AsAskedRecord × Bytes)). judged NotHinted (suite_for client.suite c.args.suites.now first.1.1) >>= own first) c.from_residual.result c.from_residual.ensures.1 c.in_err-octets.ensures

pub returns-in_err-suite : goal.returns-in_err-suite
returns-in_err-suite g c =
    let client = c.args.client.now in
    let means = by_agile_certificate c.args.own.now.certificate.now c.args.own.now.anchor.now (g.Y.KeyFunctions.functions c.args.own.now.keys.now) in
    let own = λ (first : Bytes × (AsAskedRecord × Bytes)) (suite : CipherSuite). granted_first {F = g.row.K-Fault.Denot} c.args.suites.now (record client { suite = suite }) (means first.0) first.1 in
    runs-with (λ (first : Bytes × (AsAskedRecord × Bytes)). judged NotHinted (suite_for client.suite c.args.suites.now first.1.1) >>= own first)
    (λ i. (c.as_slice-request.ensures.value i, (c.in_ok-octets.asked, c.as_slice-answer.ensures.value i))) c.in_ok-octets.ensures
    (runs-exit (own (c.as_slice-request.result.now, (c.in_ok-octets.asked, c.as_slice-answer.result.now))) c.from_residual-in_err-suite.result c.from_residual-in_err-suite.ensures.1
    (runs-judged NotHinted (suite_for client.suite c.args.suites.now c.as_slice-answer.result.now) _ (Err c.in_err-suite.field-0.0) c.in_err-suite.ensures))

pub returns : goal.returns
returns g c =
    let client = c.args.client.now in
    let means = by_agile_certificate c.args.own.now.certificate.now c.args.own.now.anchor.now (g.Y.KeyFunctions.functions c.args.own.now.keys.now) in
    let own = λ (first : Bytes × (AsAskedRecord × Bytes)) (suite : CipherSuite). granted_first {F = g.row.K-Fault.Denot} c.args.suites.now (record client { suite = suite }) (means first.0) first.1 in
    runs-with (λ (first : Bytes × (AsAskedRecord × Bytes)). judged NotHinted (suite_for client.suite c.args.suites.now first.1.1) >>= own first)
    (λ i. (c.as_slice-request.ensures.value i, (c.in_ok-octets.asked, c.as_slice-answer.ensures.value i))) c.in_ok-octets.ensures
    (runs-then (own (c.as_slice-request.result.now, (c.in_ok-octets.asked, c.as_slice-answer.result.now)))
    (runs-judged NotHinted (suite_for client.suite c.args.suites.now c.as_slice-answer.result.now) _ (Ok c.in_ok-suite.suite) c.in_ok-suite.ensures)
    (runs-judged NotTaken
    (as_made (taken_of_suites c.args.suites.now) (takes_as_reply (record client { suite = c.in_ok-suite.suite }) (means c.as_slice-request.result.now) c.in_ok-octets.asked c.as_slice-answer.result.now))
    _ c.take_in.result c.take_in.ensures))
