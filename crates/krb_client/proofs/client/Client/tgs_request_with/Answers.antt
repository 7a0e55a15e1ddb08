use Rattle.std.proofs.Common.{rules}
use Rattle.krb_realm_accounts.specs.Names.{parts}
use Rattle.krb_client.specs.TgsRequest.{AsksTgsWith, sole_tgs_with}
use Rattle.krb_client.proofs.client.Client.tgs_request_with.Goals as goal

pub returns-clause-only : goal.returns-clause-only
returns-clause-only c =
    let own : AsksTgsWith c.args.self.now c.args.suites.now c.args.options c.args.credential.now (parts c.args.request.now.service.now) c.args.request.now.till c.args.request.now.moment c.args.request.now.words.now c.in_ok-bytes.bytes.items = search rules in
    λ other asks. sole_tgs_with c.args.self.now c.args.suites.now c.args.options c.args.credential.now (parts c.args.request.now.service.now) c.args.request.now.till c.args.request.now.moment c.args.request.now.words.now other c.in_ok-bytes.bytes.items asks own
