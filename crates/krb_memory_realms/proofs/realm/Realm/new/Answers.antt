use Rattle.krb_memory_realms.proofs.Keyed.{made_realm}
use Rattle.krb_memory_realms.proofs.realm.Realm.new.Goals as goal

pub invariant_of-result : goal.invariant_of-result
invariant_of-result c =
    made_realm c.in_ok-own.own c.new-accounts.result _ c.in_ok-service.service.items c.in_ok-granting.granting c.new-accounts.ensures c.in_ok-service.ensures c.is_own.ensures c.in-Ok.ensures.ok
