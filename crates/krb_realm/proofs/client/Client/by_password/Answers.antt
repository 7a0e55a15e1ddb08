use Rattle.krb_realm_accounts.specs.Names.{parts}
use Rattle.krb_realm.proofs.MadeClients.{of_suite}
use Rattle.krb_realm.proofs.client.Client.by_password.Goals as goal

pub invariant_of-result : goal.invariant_of-result
invariant_of-result c = of_suite c.args.realm.now (parts c.args.name.now) c.args.suite c.args.password.now (c.in-Ok.asking, c.in-Ok.own) c.in-Ok.ensures.made
