use Rattle.std.proofs.Common.{◌≡◌, rules, ◌∙◌}
use Rattle.krb_realm_accounts.specs.Packed.{packed}
use Rattle.krb_realm_accounts.proofs.Blocks.{found}
use Rattle.krb_realm_accounts.proofs.accounts.Accounts.get.Goals as goal

pub returns : goal.returns
returns c =
    let made : c.as_slice.result.now ≡ packed c.args.name.now = search rules in
    c.get.ensures.value ∙ found c.args.self.now c.self.inside.entries c.args.name.now c.as_slice.result.now c.self.view_is c.self.invariant made
