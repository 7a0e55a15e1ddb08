use Rattle.std.proofs.Common.{ℕ, ◌<◌, ◌^◌, List, length, sym, subst}
use Rattle.byte_streams.proofs.Exits.{at-exit}
use Rattle.krb_file_formats.specs.Entries.{TextsFit}
use Rattle.krb_file_formats.proofs.WritingLaws.{refusal-of, item-left, texts-put}
use Rattle.krb_file_formats.proofs.writing.put_texts.Goals as goal

pub returns-in_err-put_counted : goal.returns-in_err-put_counted
returns-in_err-put_counted c =
    let left = item-left c.args.texts.now c.loop-text.text-index c.text-item.result c.loop-text-test.true c.text-item.is in
    at-exit _ _ _ _ c.from_residual.ensures.1
    (refusal-of _ (λ fits. subst (λ (l : List ℕ). length l < 2 ^ 16) (sym c.as_bytes.ensures.value) (subst TextsFit left (c.loop-text.invariant.back fits)).0.size)
    c.in_err-put_counted.ensures)

pub loop-text-preserved : goal.loop-text-preserved
loop-text-preserved c =
    let ts = c.args.texts.now in
    let i = c.loop-text.text-index in
    let t = c.text-item.result in
    let left = item-left ts i t c.loop-text-test.true c.text-item.is in
    let size = subst (λ (l : List ℕ). length l < 2 ^ 16) c.as_bytes.ensures.value c.in_ok-put_counted.ensures.1 in
    record {
      put = texts-put ts i t c.as_bytes.result.now _ _ _ c.loop-text-test.true c.text-item.is c.as_bytes.ensures.value c.in_ok-put_counted.ensures.0 c.loop-text.invariant.put;
      fit = λ rest. c.loop-text.invariant.fit (subst TextsFit (sym left) (record { size = size; characters = c.as_bytes.ensures.character_set }, rest));
      back = λ fits. (subst TextsFit left (c.loop-text.invariant.back fits)).1;
    }
