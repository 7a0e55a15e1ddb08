use Rattle.std.proofs.Common.{sym, subst}
use Rattle.byte_streams.proofs.Exits.{at-exit}
use Rattle.krb_file_formats.specs.Writing.{AreWritable}
use Rattle.krb_file_formats.proofs.WritingLaws.{refusal-of, item-left, records-put, bytes-end}
use Rattle.krb_file_formats.proofs.writing.bytes_of.Goals as goal

pub returns-in_err-put_record : goal.returns-in_err-put_record
returns-in_err-put_record c =
    let left = item-left c.args.records.now c.loop-one.one-index c.one-item.result c.loop-one-test.true c.one-item.is in
    at-exit _ _ _ _ c.from_residual-in_err-put_record.ensures.1
    (refusal-of _ (λ fits. (subst AreWritable left (c.loop-one.invariant.back fits)).0) c.in_err-put_record.ensures)

pub loop-one-preserved : goal.loop-one-preserved
loop-one-preserved c =
    let es = c.args.records.now in
    let i = c.loop-one.one-index in
    let e = c.one-item.result in
    let left = item-left es i e c.loop-one-test.true c.one-item.is in
    record {
      put = records-put es i e _ _ _ c.loop-one-test.true c.one-item.is c.in_ok-put_record.ensures.0 c.loop-one.invariant.put;
      fit = λ rest. c.loop-one.invariant.fit (subst AreWritable (sym left) (c.in_ok-put_record.ensures.1, rest));
      back = λ fits. (subst AreWritable left (c.loop-one.invariant.back fits)).1;
    }

pub returns : goal.returns
returns c = bytes-end c.args.records.now c.loop-one.one-index _ c.loop-one-test.false c.loop-one.invariant.put c.loop-one.invariant.fit
