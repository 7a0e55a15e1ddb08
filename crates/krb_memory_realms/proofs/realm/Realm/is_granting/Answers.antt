use Rattle.std.proofs.Common.{◌≡◌, true, subst}
use Rattle.krb_memory_realms.specs.Realm.{RealmState, has_krbtgt}
use Rattle.krb_memory_realms.proofs.realm.Realm.is_granting.Goals as goal

pub returns : goal.returns
returns c = subst (λ (r : RealmState). has_krbtgt r.name r.accounts ≡ true) c.self.view_is c.self.invariant.granting
