use Rattle.krb_realm_accounts.proofs.account.Account.keeping.Goals as goal

pub invariant_of-result : goal.invariant_of-result
invariant_of-result c = c.in_ok-former.ensures.are
