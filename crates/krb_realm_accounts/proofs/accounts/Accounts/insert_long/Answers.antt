use Rattle.std.proofs.Common.{◌≡◌, true, false, Err, IsSome, Option, ◌↔◌, rules, subst}
use Rattle.krb_realm_accounts.specs.Packed.{fit, packed}
use Rattle.krb_realm_accounts.specs.Account.{AccountRecord}
use Rattle.krb_realm_accounts.specs.Names.{parts}
use Rattle.krb_realm_accounts.specs.declared.refusal.RealmRefusal.TheVariants.{Exists}
use Rattle.krb_realm_accounts.proofs.Blocks.{blocks_after, found, inserted_new, is_block, memory_aside, missing, put_none}
use Rattle.krb_realm_accounts.proofs.accounts.Accounts.insert_long.Goals as goal

pub returns-then-not-pack_parts-clause-exists : goal.returns-then-not-pack_parts-clause-exists
returns-then-not-pack_parts-clause-exists c =
    let none : fit (parts c.args.name.now) ≡ false = search rules in
    put_none _ _ (missing c.args.self.now c.self.inside.entries (parts c.args.name.now) c.self.view_is c.self.invariant none) (λ e. cc (e))

pub invariant_of-self-2 : goal.invariant_of-self-2
invariant_of-self-2 c =
    let made : c.as_slice.result.now ≡ packed (parts c.args.name.now) = search rules in
    let fits : fit (parts c.args.name.now) ≡ true = search rules in
    blocks_after c.put_new.result c.self.inside.entries c.put_new.new.entries c.as_slice.result.now c.put_new.ensures.blocks c.put_new.ensures.err c.self.invariant
    (is_block (parts c.args.name.now) c.as_slice.result.now made fits)

pub returns-clause-exists : goal.returns-clause-exists
returns-clause-exists c =
    let made : c.as_slice.result.now ≡ packed (parts c.args.name.now) = search rules in
    subst (λ (o : Option AccountRecord). (c.put_new.result ≡ Err Exists) ↔ IsSome o)
    (found c.args.self.now c.self.inside.entries (parts c.args.name.now) c.as_slice.result.now c.self.view_is c.self.invariant made) c.put_new.ensures.exists

pub returns-clause-refusal : goal.returns-clause-refusal
returns-clause-refusal c =
    let made : c.as_slice.result.now ≡ packed (parts c.args.name.now) = search rules in
    memory_aside c.put_new.result _ c.put_new.ensures.refusal
    (subst (λ (o : Option AccountRecord). (c.put_new.result ≡ Err Exists) ↔ IsSome o)
    (found c.args.self.now c.self.inside.entries (parts c.args.name.now) c.as_slice.result.now c.self.view_is c.self.invariant made) c.put_new.ensures.exists)

pub returns-clause-ok : goal.returns-clause-ok
returns-clause-ok c =
    let made : c.as_slice.result.now ≡ packed (parts c.args.name.now) = search rules in
    let fits : fit (parts c.args.name.now) ≡ true = search rules in
    let are = blocks_after c.put_new.result c.self.inside.entries c.put_new.new.entries c.as_slice.result.now c.put_new.ensures.blocks c.put_new.ensures.err c.self.invariant
    (is_block (parts c.args.name.now) c.as_slice.result.now made fits) in
    inserted_new c.args.self.now c.put_new.result c.self.inside.entries c.put_new.new.entries (parts c.args.name.now) c.as_slice.result.now c.args.account
    c.self.view_is c.self.invariant are made c.put_new.ensures.ok
