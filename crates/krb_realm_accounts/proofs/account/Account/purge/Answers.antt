use Rattle.std.proofs.Common.{arith}
use Rattle.krb_realm_accounts.proofs.account.Account.purge.Goals as goal

pub invariant_of-self : goal.invariant_of-self
invariant_of-self c = record { counts = c.self.invariant.counts; before = tt; few = omega arith }
