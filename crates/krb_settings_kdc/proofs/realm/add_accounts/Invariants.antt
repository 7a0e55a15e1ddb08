use Rattle.krb_settings_kdc.proofs.Adding.{IsSoFar}
use Rattle.krb_settings_kdc.proofs.realm.add_accounts.Given as goal

abbrev pub invariant-loop-index : goal.invariant-loop-index
invariant-loop-index l = IsSoFar l.fn.realm l.accounts l.index l.realm
