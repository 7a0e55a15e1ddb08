use Rattle.std.proofs.Common.{map}
use Rattle.krb_settings.specs.Accounts.{numbered}
use Rattle.krb_settings.specs.Written.{shown_account}
use Rattle.krb_settings.proofs.Lists.{IsSoFar}
use Rattle.krb_settings.proofs.account.read_accounts.Given as goal

abbrev pub invariant-loop-index : goal.invariant-loop-index
invariant-loop-index l = IsSoFar numbered 1 l.values l.index (map shown_account l.accounts.items)
