use Rattle.std.proofs.Common.{sym, ◌∙◌, inr}
use Rattle.krb_messages.proofs.NamesRead.{at_exit, fault-realm, is_none, is_some, realm-many, realm-ok}
use Rattle.krb_messages.proofs.name_reading.realm_of.Goals as goal

pub returns-in_err-before-clause-refusal : goal.returns-in_err-before-clause-refusal
returns-in_err-before-clause-refusal c = at_exit _ _ _ c.from_residual.ensures.1 (fault-realm c.args.text.now _ c.in_err-before.ensures.refusal)

pub returns-then-not-is_empty-clause-refusal : goal.returns-then-not-is_empty-clause-refusal
returns-then-not-is_empty-clause-refusal c =
    let isnt = sym c.is_empty.ensures ∙ c.if-not-is_empty.true in
    inr (realm-many c.args.text.now c.in_ok-before.before.items c.in_ok-before.realm.items (is_some _ (rw c.as_slice.ensures.value at isnt)) c.in_ok-before.ensures.ok)

pub returns-clause-ok : goal.returns-clause-ok
returns-clause-ok c =
    let is = sym c.is_empty.ensures ∙ c.if-not-is_empty.false in
    let none = is_none _ (rw c.as_slice.ensures.value at is) in
    realm-ok c.args.text.now _ (rw none at c.in_ok-before.ensures.ok)
