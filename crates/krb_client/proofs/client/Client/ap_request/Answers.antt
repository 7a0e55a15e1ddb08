use Rattle.krb_client.specs.ApRequest.{sole_ap_request}
use Rattle.krb_client.proofs.client.Client.ap_request.Goals as goal

pub returns-clause-asks : goal.returns-clause-asks
returns-clause-asks c = record {
  authenticator = c.in_ok-authenticator.authenticator;
  authenticates = rw (c.in_ok-presented.ensures, c.in_ok-subkey.ensures, c.suite-suite.ensures) at c.in_ok-authenticator.ensures;
  presents = rw (c.confounder_at-confounder.ensures.part, c.suite-suite.ensures) at c.in_ok-bytes.ensures;
}

pub returns-clause-only : goal.returns-clause-only
returns-clause-only c =
    λ other asks. sole_ap_request c.args.self.now c.args.credential.now c.args.request.now.mutual_required c.args.request.now.with_subkey c.args.request.now.moment c.args.request.now.words.now other c.in_ok-bytes.bytes.items asks (returns-clause-asks c)
