use Rattle.std.proofs.Common.{◌≡◌, ◌++◌, take}
use Rattle.krb_settings.specs.Warnings.{met}
use Rattle.krb_settings.proofs.warnings.add.Given as goal

abbrev pub invariant-loop-case : goal.invariant-loop-case
invariant-loop-case l = l.found.items ≡ l.initial.found.items ++ met l.place (take l.case-index l.cases)
