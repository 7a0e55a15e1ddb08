use Rattle.std.proofs.Common.{◌≡◌, take}
use Rattle.krb_service.proofs.keytab_service.entries.copy_of.Given as goal

abbrev pub invariant-loop-component : goal.invariant-loop-component
invariant-loop-component l = l.copy.items ≡ take l.component-index l.name
