use Rattle.std.proofs.Common.{◌≡◌, true, Err, IsSome, Option, ◌↔◌, rules, subst}
use Rattle.krb_realm_accounts.specs.Packed.{fit_in, packed}
use Rattle.krb_realm_accounts.specs.Account.{AccountRecord}
use Rattle.krb_realm_accounts.specs.Names.{parts}
use Rattle.krb_realm_accounts.specs.declared.refusal.RealmRefusal.TheVariants.{Exists}
use Rattle.krb_realm_accounts.proofs.Blocks.{blocks_after, fits_short, found, inserted_new, is_block, memory_aside}
use Rattle.krb_realm_accounts.proofs.accounts.Accounts.insert_components.Goals as goal

pub invariant_of-self : goal.invariant_of-self
invariant_of-self c =
    let made : c.as_slice.result.now ≡ packed (parts c.args.name.now) = search rules in
    let short : fit_in 256 (parts c.args.name.now) ≡ true = search rules in
    let fits = fits_short (parts c.args.name.now) short in
    blocks_after c.put_new.result c.self.inside.entries c.put_new.new.entries c.as_slice.result.now c.put_new.ensures.blocks c.put_new.ensures.err c.self.invariant
    (is_block (parts c.args.name.now) c.as_slice.result.now made fits)

pub returns-clause-exists : goal.returns-clause-exists
returns-clause-exists c =
    let made : c.as_slice.result.now ≡ packed (parts c.args.name.now) = search rules in
    subst (λ (o : Option AccountRecord). (c.put_new.result ≡ Err Exists) ↔ IsSome o)
    (found c.args.self.now c.self.inside.entries (parts c.args.name.now) c.as_slice.result.now c.self.view_is c.self.invariant made) c.put_new.ensures.exists

pub returns-clause-refusal : goal.returns-clause-refusal
returns-clause-refusal c =
    let made : c.as_slice.result.now ≡ packed (parts c.args.name.now) = search rules in
    memory_aside c.put_new.result _ c.put_new.ensures.refusal
    (subst (λ (o : Option AccountRecord). (c.put_new.result ≡ Err Exists) ↔ IsSome o)
    (found c.args.self.now c.self.inside.entries (parts c.args.name.now) c.as_slice.result.now c.self.view_is c.self.invariant made) c.put_new.ensures.exists)

pub returns-clause-ok : goal.returns-clause-ok
returns-clause-ok c =
    let made : c.as_slice.result.now ≡ packed (parts c.args.name.now) = search rules in
    let short : fit_in 256 (parts c.args.name.now) ≡ true = search rules in
    let fits = fits_short (parts c.args.name.now) short in
    let are = blocks_after c.put_new.result c.self.inside.entries c.put_new.new.entries c.as_slice.result.now c.put_new.ensures.blocks c.put_new.ensures.err c.self.invariant
    (is_block (parts c.args.name.now) c.as_slice.result.now made fits) in
    inserted_new c.args.self.now c.put_new.result c.self.inside.entries c.put_new.new.entries (parts c.args.name.now) c.as_slice.result.now c.args.account
    c.self.view_is c.self.invariant are made c.put_new.ensures.ok
