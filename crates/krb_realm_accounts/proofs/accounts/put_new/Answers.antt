use Rattle.std.proofs.Common.{◌≡◌, None, rules, subst}
use Rattle.std.specs.BTreeMap.{get_by}
use Rattle.picky_asn1.specs.Bytes.{Bytes}
use Rattle.krb_realm_accounts.specs.Entries.{block_cmp}
use Rattle.krb_realm_accounts.proofs.Blocks.{put_blocks, put_grown, put_none}
use Rattle.krb_realm_accounts.proofs.accounts.put_new.Goals as goal

pub returns-in_default-entry-clause-exists : goal.returns-in_default-entry-clause-exists
returns-in_default-entry-clause-exists c =
    put_none _ _ (subst (λ (b : Bytes). get_by (block_cmp b) c.args.entries.now ≡ None) c.in-Ok.ensures.items c.in_default-entry.ensures.absent) (λ e. cc (e))

pub returns-in-Vacant-clause-exists : goal.returns-in-Vacant-clause-exists
returns-in-Vacant-clause-exists c =
    let none = rw c.in-Vacant.is at c.in-Ok-entry.ensures.found in
    put_none _ _ (subst (λ (b : Bytes). get_by (block_cmp b) c.args.entries.now ≡ None) c.in-Ok.ensures.items none) (λ e. cc (e))

pub returns-in-Vacant-clause-ok : goal.returns-in-Vacant-clause-ok
returns-in-Vacant-clause-ok c =
    let set = c.entries-in-Vacant-2-1.given.1 (search rules) in
    put_grown c.args.entries.now _ _ c.args.block.now c.in-Ok.key c.args.account c.insert.result.now set c.in-Ok.ensures.items c.insert.ensures.value
    (rw c.in-Vacant.is at (c.in-Ok-entry.ensures.update.0 c.insert.result.now))

pub returns-in-Vacant-clause-blocks : goal.returns-in-Vacant-clause-blocks
returns-in-Vacant-clause-blocks c = λ were is.
    let set = c.entries-in-Vacant-2-1.given.1 (search rules) in
    put_blocks c.args.entries.now _ _ c.args.block.now c.in-Ok.key c.insert.result.now set c.in-Ok.ensures.items
    (rw c.in-Vacant.is at (c.in-Ok-entry.ensures.update.1 c.insert.result.now)) were is
