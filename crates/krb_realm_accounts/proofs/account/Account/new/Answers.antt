use Rattle.std.proofs.Common.{arith}
use Rattle.krb_realm_accounts.proofs.account.Account.new.Goals as goal

pub invariant_of-result : goal.invariant_of-result
invariant_of-result c = record { counts = c.requires; before = tt; few = omega arith }
