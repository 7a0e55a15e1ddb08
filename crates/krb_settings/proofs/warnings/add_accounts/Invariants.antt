use Rattle.krb_settings.specs.Written.{shown_realm}
use Rattle.krb_settings.proofs.Collected.{IsSoFar}
use Rattle.krb_settings.proofs.warnings.add_accounts.Given as goal

abbrev pub invariant-loop-index : goal.invariant-loop-index
invariant-loop-index l = IsSoFar (shown_realm l.written) l.initial.found.items l.written.accounts.items l.index l.found.items
