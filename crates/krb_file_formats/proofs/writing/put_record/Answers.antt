use Rattle.std.proofs.Common.{ℕ, List, length, ap, ◌∙◌, arith}
use Rattle.byte_streams.proofs.Exits.{at-exit}
use Rattle.krb_file_formats.proofs.WritingLaws.{refusal-of, record-put}
use Rattle.krb_file_formats.proofs.writing.put_record.Goals as goal

pub returns-in_err-body : goal.returns-in_err-body
returns-in_err-body c = at-exit _ _ _ _ c.from_residual.ensures.1 (refusal-of _ (λ fits. fits.fits) c.in_err-body.ensures)

pub returns-in_err-size : goal.returns-in_err-size
returns-in_err-size c =
    let long = ap (λ (l : List ℕ). length l) c.in_ok-body.ensures.0 in
    at-exit _ _ _ _ c.from_residual-in_err-size.ensures.1
    (refusal-of _ (λ fits. let fit = fits.size in omega (arith, fit, long, c.len.ensures)) c.in_err-size.ensures)

pub returns : goal.returns
returns c =
    let long = ap (λ (l : List ℕ). length l) c.in_ok-body.ensures.0 in
    let value = c.deref.ensures.value in
    let same = ap (λ (l : List ℕ). length l) value in
    let size = c.in_ok-size.ensures.0 in
    let fit = c.in_ok-size.ensures.1 in (
      record-put c.args.one.now c.in_ok-size.size _ c.deref.result.now _ _ _ (value ∙ c.in_ok-body.ensures.0) (omega (arith, size, same, c.len.ensures))
          c.u32_be_bytes.ensures c.in_ok-extend_from_slice.ensures.items c.in_ok-extend_from_slice-2.ensures.items,
      record { fits = c.in_ok-body.ensures.1; kvno = c.in_ok-body.ensures.2; size = omega (arith, fit, long, c.len.ensures) },
    )
