use Rattle.std.proofs.Common.{subst, sym}
use Rattle.krb_realm_accounts.specs.Account.{IsKept}
use Rattle.krb_realm_accounts.proofs.account.AccountClone.clone.Goals as goal

pub invariant_of-result : goal.invariant_of-result
invariant_of-result c = subst (IsKept c.self.inside.kvno) (sym c.in_ok-former.ensures) c.self.invariant
