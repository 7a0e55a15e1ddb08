use Rattle.std.proofs.Common.{◌+◌, subst, sym}
use Rattle.krb_realm_accounts.specs.Account.{IsKept}
use Rattle.krb_realm_accounts.proofs.OlderKeys.{kept_behind, kept_keys}
use Rattle.krb_realm_accounts.proofs.account.kept_keys.Goals as goal

pub returns-clause-kept : goal.returns-clause-kept
returns-clause-kept c = kept_behind _ _ _ _ _ c.new-own.ensures c.in_ok-older.ensures c.in_ok-keys.ensures

pub returns-clause-are : goal.returns-clause-are
returns-clause-are c =
    subst (IsKept (c.args.kvno + 1)) (sym (kept_behind _ _ _ _ _ c.new-own.ensures c.in_ok-older.ensures c.in_ok-keys.ensures))
    (kept_keys _ _ c.is_well_formed.ensures c.requires)
