use Rattle.byte_streams.proofs.Exits.{at-exit}
use Rattle.krb_file_formats.proofs.WritingLaws.{refusal-of, name-put}
use Rattle.krb_file_formats.proofs.writing.put_name.Goals as goal

pub returns-in_err-count : goal.returns-in_err-count
returns-in_err-count c = at-exit _ _ _ _ c.from_residual.ensures.1 (refusal-of _ (λ fits. fits.count) c.in_err-count.ensures)

pub returns-in_err-put_counted : goal.returns-in_err-put_counted
returns-in_err-put_counted c = at-exit _ _ _ _ c.from_residual-in_err-put_counted.ensures.1 (refusal-of _ (λ fits. fits.size) c.in_err-put_counted.ensures)

pub returns-in_err-put_texts : goal.returns-in_err-put_texts
returns-in_err-put_texts c = at-exit _ _ _ _ c.from_residual-in_err-put_texts.ensures.1 (refusal-of _ (λ fits. fits.texts) c.in_err-put_texts.ensures)

pub returns : goal.returns
returns c = (
  name-put c.args.realm.now c.args.components.now _ _ _ _ _ _ c.in_ok-extend_from_slice.ensures.items c.u16_be_bytes.ensures.bytes c.in_ok-count.ensures.0
      c.in_ok-put_counted.ensures.0 c.in_ok-put_texts.ensures.0,
  record { count = c.in_ok-count.ensures.1; size = c.in_ok-put_counted.ensures.1; texts = c.in_ok-put_texts.ensures.1 },
)
