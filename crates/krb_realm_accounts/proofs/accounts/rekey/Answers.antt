use Rattle.std.proofs.Common.{sym, ◌∙◌}
use Rattle.std.specs.BTreeMap.{is_at}
use Rattle.std.proofs.lemmas.Map.Steps.{set_value_same}
use Rattle.krb_realm_accounts.specs.Entries.{block_cmp}
use Rattle.krb_realm_accounts.proofs.Blocks.{refused_so}
use Rattle.krb_realm_accounts.proofs.accounts.rekey.Goals as goal

pub returns-in_err-account-clause-err : goal.returns-in_err-account-clause-err
returns-in_err-account-clause-err c =
    refused_so c.from_residual.result
    ((c.get_mut.follows.holds c.in-Some.account.now).0
    ∙ set_value_same (is_at (block_cmp c.args.block.now)) c.args.entries.now.entries c.in-Some.account.now (sym c.in-Some.ensures.value))
