use Rattle.krb_realm_accounts.specs.Names.{parts}
use Rattle.krb_memory_realms.proofs.Keyed.{inserted_realm}
use Rattle.krb_memory_realms.proofs.realm.Realm.add_account_by_key.Goals as goal

pub invariant_of-self-2 : goal.invariant_of-self-2
invariant_of-self-2 c =
    let realm = c.self.inside in
    inserted_realm realm.name realm.accounts _ (parts c.args.name.now) c.in_ok-account.account c.self.invariant c.is_own.ensures c.in_ok-insert_components.ensures.ok
