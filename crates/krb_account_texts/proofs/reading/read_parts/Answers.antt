use Rattle.std.proofs.Common.{inl, inr, ◌∙◌, ap, Err}
use Rattle.std.proofs.lemmas.Result.{err_from_is_err_and}
use Rattle.krb_account_texts.specs.Reading.{numbered}
use Rattle.krb_account_texts.proofs.Loops.{refused-aside, so_far-refused}
use Rattle.krb_account_texts.proofs.reading.read_parts.Goals as goal

pub returns-in_err-numbered : goal.returns-in_err-numbered
returns-in_err-numbered c =
    let r = err_from_is_err_and c.from_residual.result c.from_residual.ensures.1 in
    refused-aside _ _ _ c.from_residual.result c.in_err-numbered.field-0.0 (r.1 ∙ ap Err r.2) (elim c.in_err-numbered.ensures [
      | inl memory ↦ inl memory
      | inr refused ↦ inr (so_far-refused numbered (λ part. part.now) c.args.parts.now c.loop-index.index _ _ c.in_err-numbered.field-0.0 c.loop-index-test.true refused c.loop-index.invariant)
    ])
