use Rattle.std.proofs.lemmas.List.Elements.{same_from_all_zip}
use Rattle.krb_realm_accounts.proofs.account.copied_keys.Goals as goal

pub returns : goal.returns
returns c = same_from_all_zip _ _ _ c.in_ok-copy.ensures.cases.0 (λ own copy is. is)
