use Rattle.std.proofs.Common.{List, ℕ, Ok, Err, ap}
use Rattle.decision_tables.specs.Tables.{as_made}
use Rattle.picky_asn1.specs.Bytes.{Bytes}
use Rattle.krb_crypto.specs.declared.suite.CipherSuite.{CipherSuite}
use Rattle.krb_client.specs.AsReply.{takes_as_reply}
use Rattle.krb_client.specs.Asked.{AsAskedRecord}
use Rattle.krb_client_exchanges.specs.Grants.{taken_of_suites}
use Rattle.krb_client_exchanges.specs.AnswerHints.{suite_for}
use Rattle.krb_client_exchanges.specs.Courses.{◌>>=◌, judged}
use Rattle.krb_client_exchanges.specs.Logins.{granted_first}
use Rattle.krb_client_exchanges.specs.declared.fault.LoginRefusal.TheVariants.{NotHinted, NotTaken}
use Rattle.krb_client_exchanges.proofs.Running.{runs-exit, runs-judged, runs-then, runs-with}
use Rattle.krb_client_exchanges.proofs.certified.log_in_by_means.Goals as goal

pub returns-in_err-asked : goal.returns-in_err-asked
returns-in_err-asked g c =
    let client = c.args.client.now in
    let own = λ (first : AsAskedRecord × Bytes) (suite : CipherSuite). granted_first {F = g.row.K-Fault.Denot} c.args.suites.now (record client { suite = suite }) (g.M.Means.means c.args.means.now) first in
    runs-exit (λ (first : AsAskedRecord × Bytes). judged NotHinted (suite_for client.suite c.args.suites.now first.1) >>= own first) c.from_residual.result c.from_residual.ensures.1 c.in_err-asked.ensures

pub returns-in_err-suite : goal.returns-in_err-suite
returns-in_err-suite g c =
    let client = c.args.client.now in
    let own = λ (first : AsAskedRecord × Bytes) (suite : CipherSuite). granted_first {F = g.row.K-Fault.Denot} c.args.suites.now (record client { suite = suite }) (g.M.Means.means c.args.means.now) first in
    runs-with (λ (first : AsAskedRecord × Bytes). judged NotHinted (suite_for client.suite c.args.suites.now first.1) >>= own first) (ap (λ (octets : List ℕ). (c.in_ok-asked.asked, octets)) c.as_slice-octets.ensures.value) c.in_ok-asked.ensures
    (runs-exit (own (c.in_ok-asked.asked, c.as_slice-octets.result.now)) c.from_residual-in_err-suite.result c.from_residual-in_err-suite.ensures.1
    (runs-judged NotHinted (suite_for client.suite c.args.suites.now c.as_slice-octets.result.now) _ (Err c.in_err-suite.field-0.0) c.in_err-suite.ensures))

pub returns : goal.returns
returns g c =
    let client = c.args.client.now in
    let own = λ (first : AsAskedRecord × Bytes) (suite : CipherSuite). granted_first {F = g.row.K-Fault.Denot} c.args.suites.now (record client { suite = suite }) (g.M.Means.means c.args.means.now) first in
    runs-with (λ (first : AsAskedRecord × Bytes). judged NotHinted (suite_for client.suite c.args.suites.now first.1) >>= own first) (ap (λ (octets : List ℕ). (c.in_ok-asked.asked, octets)) c.as_slice-octets.ensures.value) c.in_ok-asked.ensures
    (runs-then (own (c.in_ok-asked.asked, c.as_slice-octets.result.now))
    (runs-judged NotHinted (suite_for client.suite c.args.suites.now c.as_slice-octets.result.now) _ (Ok c.in_ok-suite.suite) c.in_ok-suite.ensures)
    (runs-judged NotTaken (as_made (taken_of_suites c.args.suites.now) (takes_as_reply (record client { suite = c.in_ok-suite.suite }) (g.M.Means.means c.args.means.now) c.in_ok-asked.asked c.as_slice-octets.result.now)) _ c.take_in.result c.take_in.ensures))
