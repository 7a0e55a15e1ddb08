use Rattle.krb_realm_accounts.specs.Names.{parts}
use Rattle.krb_memory_realms.proofs.Keyed.{changed_own, inserted_realm, kept_realm}
use Rattle.krb_memory_realms.proofs.realm.Realm.change_key.Goals as goal

pub invariant_of-self : goal.invariant_of-self
invariant_of-self c =
    let realm = c.self.inside in
    kept_realm c.change_key.result _ realm.name realm.accounts c.change_key.new.self c.self.invariant
    (λ (account, changes, is).
    inserted_realm realm.name realm.accounts c.change_key.new.self (parts c.args.name.now) account c.self.invariant
    (changed_own realm.accounts (parts c.args.name.now) c.args.suite c.args.key.now account c.self.invariant.own (λ i. (c.type_inv.key i).fits) changes) is)
    c.change_key.ensures.ok c.change_key.ensures.err
