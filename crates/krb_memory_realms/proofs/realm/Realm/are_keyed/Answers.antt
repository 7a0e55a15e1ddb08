use Rattle.std.proofs.Common.{subst}
use Rattle.krb_realm_accounts.specs.Accounts.{look_in}
use Rattle.krb_kdc_exchanges.specs.Calls.{AreKeyed}
use Rattle.krb_memory_realms.specs.Realm.{RealmState}
use Rattle.krb_memory_realms.proofs.realm.Realm.are_keyed.Goals as goal

pub returns : goal.returns
returns c = subst (λ (r : RealmState). AreKeyed (look_in r.accounts)) c.self.view_is (λ name account found. (c.self.invariant.own name account found).keyed)
