use Rattle.std.proofs.Common.{List, ℕ, ap}
use Rattle.decision_tables.specs.Tables.{as_made}
use Rattle.picky_asn1.specs.Bytes.{Bytes}
use Rattle.krb_client.specs.Asked.{TgsAskedRecord}
use Rattle.krb_client.specs.TgsReply.{takes_tgs_reply}
use Rattle.krb_client_exchanges.specs.Grants.{taken_of_suites}
use Rattle.krb_client_exchanges.specs.Logins.{granted}
use Rattle.krb_client_exchanges.specs.declared.fault.LoginRefusal.TheVariants.{NotTaken}
use Rattle.krb_client_exchanges.proofs.Running.{runs-exit, runs-judged, runs-with}
use Rattle.krb_client_exchanges.proofs.renewal.renewed_of.Goals as goal

pub returns-in_err-asked : goal.returns-in_err-asked
returns-in_err-asked g c =
    runs-exit (λ (further : TgsAskedRecord × Bytes). granted {F = g.row.K-Fault.Denot} c.args.suites.now (takes_tgs_reply c.args.client.now further.0 further.1)) c.from_residual.result c.from_residual.ensures.1 c.in_err-asked.ensures

pub returns : goal.returns
returns g c =
    runs-with (λ (further : TgsAskedRecord × Bytes). granted {F = g.row.K-Fault.Denot} c.args.suites.now (takes_tgs_reply c.args.client.now further.0 further.1))
    (ap (λ (octets : List ℕ). (c.in_ok-asked.asked, octets)) c.deref.ensures.value) c.in_ok-asked.ensures
    (runs-judged NotTaken (as_made (taken_of_suites c.args.suites.now) (takes_tgs_reply c.args.client.now c.in_ok-asked.asked c.deref.result.now)) _ c.take_further.result c.take_further.ensures)
