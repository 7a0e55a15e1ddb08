use Rattle.std.proofs.Common.{◌≡◌, false, rules, sym, ◌∙◌}
use Rattle.krb_realm_accounts.specs.Packed.{fit, packed}
use Rattle.krb_realm_accounts.proofs.Blocks.{found, missing}
use Rattle.krb_realm_accounts.proofs.accounts.Accounts.get_long.Goals as goal

pub returns-then-not-pack_name : goal.returns-then-not-pack_name
returns-then-not-pack_name c =
    let none : fit c.args.name.now ≡ false = search rules in
    sym (missing c.args.self.now c.self.inside.entries c.args.name.now c.self.view_is c.self.invariant none)

pub returns : goal.returns
returns c =
    let made : c.as_slice.result.now ≡ packed c.args.name.now = search rules in
    c.get.ensures.value ∙ found c.args.self.now c.self.inside.entries c.args.name.now c.as_slice.result.now c.self.view_is c.self.invariant made
