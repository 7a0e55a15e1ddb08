use Rattle.std.proofs.Common.{sym, subst}
use Rattle.byte_streams.proofs.Exits.{at-exit}
use Rattle.krb_file_formats.proofs.WritingLaws.{refusal-of, item-left}
use Rattle.krb_file_formats.specs.Formats.{AllFit}
use Rattle.krb_file_formats.proofs.CacheWritingLaws.{list-put, list-end}
use Rattle.krb_file_formats.proofs.credential_caches.items.put_list.Goals as goal

pub returns-in_err-put : goal.returns-in_err-put
returns-in_err-put g c =
    let left = item-left c.args.items.now c.loop-item.item-index c.item-item.result c.loop-item-test.true c.item-item.is in
    at-exit _ _ _ _ c.from_residual.ensures.1
    (refusal-of _ (λ fits. (subst (AllFit g.T.CacheItem.format) left (c.loop-item.invariant.back fits)).0) c.in_err-put.ensures)

pub loop-item-preserved : goal.loop-item-preserved
loop-item-preserved g c =
    let format = g.T.CacheItem.format in
    let xs = c.args.items.now in
    let i = c.loop-item.item-index in
    let x = c.item-item.result in
    let left = item-left xs i x c.loop-item-test.true c.item-item.is in
    record {
      put = list-put format xs i x _ _ _ c.loop-item-test.true c.item-item.is c.in_ok-put.ensures.0 c.loop-item.invariant.put;
      fit = λ rest. c.loop-item.invariant.fit (subst (AllFit format) (sym left) (c.in_ok-put.ensures.1, rest));
      back = λ fits. (subst (AllFit format) left (c.loop-item.invariant.back fits)).1;
    }

pub returns : goal.returns
returns g c = list-end g.T.CacheItem.format c.args.items.now c.loop-item.item-index _ _ c.loop-item-test.false c.loop-item.invariant.put c.loop-item.invariant.fit
