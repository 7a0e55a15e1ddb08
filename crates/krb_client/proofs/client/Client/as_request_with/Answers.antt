use Rattle.std.proofs.Common.{rules}
use Rattle.krb_realm_accounts.specs.Names.{parts}
use Rattle.krb_client.specs.AsRequest.{AsksAsWith, sole_as_with}
use Rattle.krb_client.proofs.client.Client.as_request_with.Goals as goal

pub returns-clause-only : goal.returns-clause-only
returns-clause-only g c =
    let own : AsksAsWith c.args.self.now c.args.suites.now c.args.options (g.M.Means.means c.args.means.now) (parts c.args.request.now.service.now) c.args.request.now.till c.args.request.now.moment c.args.request.now.words.now c.in_ok-bytes.bytes.items = search rules in
    λ other asks. sole_as_with c.args.self.now c.args.suites.now c.args.options (g.M.Means.means c.args.means.now) (parts c.args.request.now.service.now) c.args.request.now.till c.args.request.now.moment c.args.request.now.words.now other c.in_ok-bytes.bytes.items asks own
