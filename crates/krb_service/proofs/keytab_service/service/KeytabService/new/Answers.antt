use Rattle.krb_service.proofs.OwnEntries.{are_own}
use Rattle.krb_service.proofs.keytab_service.service.KeytabService.new.Goals as goal

pub invariant_of-result : goal.invariant_of-result
invariant_of-result c =
    let given = rw c.deref.ensures.value at c.in_ok-entries.ensures.given in
    are_own c.in-Ok.realm c.in-Ok-components_of.components.items c.args.keytab.now c.in_ok-entries.entries.items (rw c.in-Ok.ensures.ok c.in-Ok.ensures.valid)
    (rw c.in-Ok-components_of.ensures.ok c.in-Ok-components_of.ensures.valid) given.0 given.1
