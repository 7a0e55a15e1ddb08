use Rattle.std.proofs.Common.{sym, ◌∙◌}
use Rattle.krb_realm_accounts.specs.Names.{parts}
use Rattle.krb_memory_realms.proofs.Keyed.{kept_realm, removed_realm}
use Rattle.krb_memory_realms.proofs.realm.Realm.remove_account.Goals as goal

pub invariant_of-self : goal.invariant_of-self
invariant_of-self c =
    let realm = c.self.inside in
    kept_realm c.remove.result _ realm.name realm.accounts c.remove.new.self c.self.invariant
    (λ is. removed_realm realm.name realm.accounts c.remove.new.self (parts c.args.name.now) c.self.invariant (sym c.is_krbtgt.ensures ∙ c.if-is_krbtgt.false) is)
    c.remove.ensures.ok c.remove.ensures.err
