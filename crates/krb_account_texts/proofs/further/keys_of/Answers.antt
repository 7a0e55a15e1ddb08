use Rattle.std.proofs.Common.{◌+◌, inl, inr, ◌∙◌, sym, ap, subst, Err}
use Rattle.std.proofs.lemmas.Result.{err_from_is_err_and}
use Rattle.krb_account_texts.specs.Reading.{older_in}
use Rattle.krb_account_texts.proofs.Loops.{IsSoFar, refused-aside, so_far-more, so_far-refused}
use Rattle.krb_account_texts.proofs.further.keys_of.Goals as goal

pub returns-in_err-older_in : goal.returns-in_err-older_in
returns-in_err-older_in c =
    let r = err_from_is_err_and c.from_residual.result c.from_residual.ensures.1 in
    refused-aside _ _ _ c.from_residual.result c.in_err-older_in.field-0.0 (r.1 ∙ ap Err r.2) (elim c.in_err-older_in.ensures [
      | inl memory ↦ inl memory
      | inr refused ↦ inr (so_far-refused older_in (λ field. field.now) c.args.fields.now c.loop-index.index _ _ c.in_err-older_in.field-0.0 c.loop-index-test.true refused c.loop-index.invariant)
    ])

pub loop-index-preserved : goal.loop-index-preserved
loop-index-preserved c =
    subst (IsSoFar older_in (λ field. field.now) c.args.fields.now (c.loop-index.index + 1)) (sym c.in_ok-push.ensures.items)
    (so_far-more older_in (λ field. field.now) c.args.fields.now c.loop-index.index _ c.loop-index.keys.items c.in_ok-older_in.field-0 c.loop-index-test.true c.in_ok-older_in.ensures c.loop-index.invariant)
