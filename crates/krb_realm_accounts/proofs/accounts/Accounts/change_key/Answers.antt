use Rattle.std.proofs.Common.{◌≡◌, false, Result, Err, IfErr, OnOk, Ok, Some, rules, sym, ap, subst, ◌∙◌}
use Rattle.std.specs.BTreeMap.{UpdatesBy, get_by}
use Rattle.krb_realm_accounts.specs.Packed.{fit, packed}
use Rattle.krb_crypto.specs.Keys.{KeyRecord}
use Rattle.krb_realm_accounts.specs.Account.{AccountRecord}
use Rattle.krb_realm_accounts.specs.Accounts.{rekeyed}
use Rattle.krb_realm_accounts.specs.Entries.{AreBlocks, block_cmp, cmp_blocks}
use Rattle.krb_realm_accounts.specs.Names.{parts}
use Rattle.krb_realm_accounts.specs.declared.refusal.RealmRefusal.{RealmRefusal}
use Rattle.krb_realm_accounts.proofs.Blocks.{changed, found, judged, missing, settled}
use Rattle.krb_realm_accounts.proofs.accounts.Accounts.change_key.Goals as goal

pub returns-then-not-pack_parts-clause-refusal : goal.returns-then-not-pack_parts-clause-refusal
returns-then-not-pack_parts-clause-refusal c =
    let none : fit (parts c.args.name.now) ≡ false = search rules in
    let at = missing c.args.self.now c.self.inside.entries (parts c.args.name.now) c.self.view_is c.self.invariant none in
    sym (judged c.args.self.now (parts c.args.name.now) c.args.suite c.args.key.now _ (sym at) c.in_ok-key.ensures.size)

pub returns-then-not-pack_parts-clause-refuses : goal.returns-then-not-pack_parts-clause-refuses
returns-then-not-pack_parts-clause-refuses c = λ refusal x.
    let none : fit (parts c.args.name.now) ≡ false = search rules in
    let at = missing c.args.self.now c.self.inside.entries (parts c.args.name.now) c.self.view_is c.self.invariant none in
    let both = judged c.args.self.now (parts c.args.name.now) c.args.suite c.args.key.now _ (sym at) c.in_ok-key.ensures.size ∙ x in
    ap Err (cc (both))

pub returns-clause-refusal : goal.returns-clause-refusal
returns-clause-refusal c =
    let made : c.as_slice.result.now ≡ packed (parts c.args.name.now) = search rules in
    let at = get_by (block_cmp c.as_slice.result.now) c.self.inside.entries in
    let is = found c.args.self.now c.self.inside.entries (parts c.args.name.now) c.as_slice.result.now c.self.view_is c.self.invariant made in
    let wanted = ap (λ (k : KeyRecord). rekeyed k.suite k.bytes at) c.in_ok-key.ensures.ok
    ∙ judged c.args.self.now (parts c.args.name.now) c.args.suite c.args.key.now at is c.in_ok-key.ensures.size in
    subst (λ (w : Result AccountRecord RealmRefusal). IfErr c.rekey.result (λ refusal. w ≡ Err refusal)) wanted c.rekey.ensures.refusal

pub returns-clause-refuses : goal.returns-clause-refuses
returns-clause-refuses c = λ refusal x.
    let made : c.as_slice.result.now ≡ packed (parts c.args.name.now) = search rules in
    let at = get_by (block_cmp c.as_slice.result.now) c.self.inside.entries in
    let is = found c.args.self.now c.self.inside.entries (parts c.args.name.now) c.as_slice.result.now c.self.view_is c.self.invariant made in
    let wanted = ap (λ (k : KeyRecord). rekeyed k.suite k.bytes at) c.in_ok-key.ensures.ok
    ∙ judged c.args.self.now (parts c.args.name.now) c.args.suite c.args.key.now at is c.in_ok-key.ensures.size in
    settled c.rekey.result _ (λ account. UpdatesBy cmp_blocks (block_cmp c.as_slice.result.now) c.self.inside.entries c.rekey.new.entries (Some account))
    c.rekey.ensures.refusal c.rekey.ensures.ok refusal (wanted ∙ x)

pub returns-clause-ok : goal.returns-clause-ok
returns-clause-ok c =
    let made : c.as_slice.result.now ≡ packed (parts c.args.name.now) = search rules in
    let at = get_by (block_cmp c.as_slice.result.now) c.self.inside.entries in
    let is = found c.args.self.now c.self.inside.entries (parts c.args.name.now) c.as_slice.result.now c.self.view_is c.self.invariant made in
    let wanted = ap (λ (k : KeyRecord). rekeyed k.suite k.bytes at) c.in_ok-key.ensures.ok
    ∙ judged c.args.self.now (parts c.args.name.now) c.args.suite c.args.key.now at is c.in_ok-key.ensures.size in
    changed c.args.self.now c.rekey.result _ c.self.inside.entries c.rekey.new.entries (parts c.args.name.now) c.as_slice.result.now
    c.self.view_is c.self.invariant (subst AreBlocks (sym c.rekey.ensures.keys) c.self.invariant) made
    (subst (λ (w : Result AccountRecord RealmRefusal). OnOk c.rekey.result ((account : AccountRecord)
    × UpdatesBy cmp_blocks (block_cmp c.as_slice.result.now) c.self.inside.entries c.rekey.new.entries (Some account) × (w ≡ Ok account)))
    wanted c.rekey.ensures.ok)
