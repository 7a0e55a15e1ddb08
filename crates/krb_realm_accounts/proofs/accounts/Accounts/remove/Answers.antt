use Rattle.std.proofs.Common.{◌≡◌, true, false, rules, ap, ◌∙◌}
use Rattle.std.specs.FinMap as finite
use Rattle.std.specs.Option.{is_none}
use Rattle.krb_realm_accounts.specs.Packed.{fit, packed}
use Rattle.krb_realm_accounts.specs.Accounts.{AccountMap}
use Rattle.krb_realm_accounts.specs.Names.{parts}
use Rattle.krb_realm_accounts.proofs.Blocks.{blocks_left, found, known_if, missing, removed, unknown, unknown_if}
use Rattle.krb_realm_accounts.proofs.accounts.Accounts.remove.Goals as goal

pub returns-then-not-pack_parts-clause-refusal : goal.returns-then-not-pack_parts-clause-refusal
returns-then-not-pack_parts-clause-refusal c =
    let none : fit (parts c.args.name.now) ≡ false = search rules in
    unknown _ _ (missing c.args.self.now c.self.inside.entries (parts c.args.name.now) c.self.view_is c.self.invariant none)

pub returns-then-is_none-clause-refusal : goal.returns-then-is_none-clause-refusal
returns-then-is_none-clause-refusal c =
    let made : c.as_slice.result.now ≡ packed (parts c.args.name.now) = search rules in
    let at = found c.args.self.now c.self.inside.entries (parts c.args.name.now) c.as_slice.result.now c.self.view_is c.self.invariant made in
    let gone : is_none c.remove.result ≡ true = search rules in
    unknown_if _ _ c.remove.result (c.remove.ensures.value ∙ at) gone

pub invariant_of-self-2 : goal.invariant_of-self-2
invariant_of-self-2 c = blocks_left c.as_slice.result.now c.self.inside.entries c.remove.new.self c.remove.ensures.entries c.self.invariant

pub returns-clause-refusal : goal.returns-clause-refusal
returns-clause-refusal c =
    let made : c.as_slice.result.now ≡ packed (parts c.args.name.now) = search rules in
    let at = found c.args.self.now c.self.inside.entries (parts c.args.name.now) c.as_slice.result.now c.self.view_is c.self.invariant made in
    let there : is_none c.remove.result ≡ false = search rules in
    known_if _ _ c.remove.result (c.remove.ensures.value ∙ at) there

pub returns-clause-ok : goal.returns-clause-ok
returns-clause-ok c =
    let made : c.as_slice.result.now ≡ packed (parts c.args.name.now) = search rules in
    let left = blocks_left c.as_slice.result.now c.self.inside.entries c.remove.new.self c.remove.ensures.entries c.self.invariant in
    removed c.self.inside.entries c.remove.new.self (parts c.args.name.now) c.as_slice.result.now c.self.invariant left made c.remove.ensures.updates
    ∙ ap (λ (m : AccountMap). finite.remove m (parts c.args.name.now)) c.self.view_is
