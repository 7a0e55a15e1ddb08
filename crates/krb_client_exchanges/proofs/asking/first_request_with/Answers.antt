use Rattle.std.proofs.Common.{◌≡◌, rules}
use Rattle.krb_realm_accounts.specs.Names.{parts}
use Rattle.krb_client_exchanges.proofs.asking.first_request_with.Goals as goal

pub returns-clause-asks : goal.returns-clause-asks
returns-clause-asks c =
    let named : c.deref.result.now ≡ parts c.args.request.now.service.now = search rules in
    let bytes = rw c.in_ok-body.ensures at c.in_ok-bytes.ensures in
    rw named at bytes
