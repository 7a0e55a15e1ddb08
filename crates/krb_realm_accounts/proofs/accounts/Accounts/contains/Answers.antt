use Rattle.std.proofs.Common.{◌≡◌, false, is_some, rules, sym, ap, ◌∙◌}
use Rattle.krb_realm_accounts.specs.Packed.{fit, packed}
use Rattle.krb_realm_accounts.specs.Names.{parts}
use Rattle.krb_realm_accounts.proofs.Blocks.{found, missing}
use Rattle.krb_realm_accounts.proofs.accounts.Accounts.contains.Goals as goal

pub returns-then-not-pack_parts : goal.returns-then-not-pack_parts
returns-then-not-pack_parts c =
    let none : fit (parts c.args.name.now) ≡ false = search rules in
    sym (ap is_some (missing c.args.self.now c.self.inside.entries (parts c.args.name.now) c.self.view_is c.self.invariant none))

pub returns : goal.returns
returns c =
    let made : c.as_slice.result.now ≡ packed (parts c.args.name.now) = search rules in
    c.contains_key.ensures
    ∙ ap is_some (found c.args.self.now c.self.inside.entries (parts c.args.name.now) c.as_slice.result.now c.self.view_is c.self.invariant made)
