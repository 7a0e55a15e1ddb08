use Rattle.asn1_codec.proofs.Chain.{at-exit}
use Rattle.asn1_codec.proofs.Writes.{header-short, wrote-short}
use Rattle.asn1_codec.proofs.ser.Serializer.header.Goals as goal

pub returns-in_err-put : goal.returns-in_err-put
returns-in_err-put g c =
    at-exit _ _ _ _ c.from_residual-in_err-put.ensures.1
    (λ content size. header-short c.args.tag c.args.count content _ _ _ c.if-count-lt128.true size c.in_err-put.ensures)

pub returns-then-count-lt128 : goal.returns-then-count-lt128
returns-then-count-lt128 g c = wrote-short c.args.tag c.args.count _ _ c.if-count-lt128.true c.in_ok-put.ensures
