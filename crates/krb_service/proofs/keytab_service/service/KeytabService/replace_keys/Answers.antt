use Rattle.krb_service.proofs.OwnEntries.{are_own}
use Rattle.krb_service.proofs.keytab_service.service.KeytabService.replace_keys.Goals as goal

pub invariant_of-self : goal.invariant_of-self
invariant_of-self c =
    let given = rw c.deref.ensures.value at c.in_ok-entries.ensures.given in
    are_own c.self.inside.realm c.self.inside.components.items c.args.keytab.now c.in_ok-entries.entries.items c.self.invariant.0 c.self.invariant.1 given.0 given.1
