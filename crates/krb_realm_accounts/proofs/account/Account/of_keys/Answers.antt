use Rattle.std.proofs.Common.{subst, sym}
use Rattle.krb_realm_accounts.specs.Account.{IsKept}
use Rattle.krb_realm_accounts.proofs.account.Account.of_keys.Goals as goal

pub invariant_of-result : goal.invariant_of-result
invariant_of-result c =
    subst (IsKept c.args.kvno) (sym c.some_keys-former.ensures)
    (record { counts = c.requires.counts; before = c.requires.before; few = c.requires.few })
