use Rattle.asn1_codec.proofs.Chain.{at-exit}
use Rattle.x509_spelling.proofs.Refusals.{exact_refused, exact_told}
use Rattle.x509_spelling.proofs.exact.read_exact.Goals as goal

pub returns-in_err-value : goal.returns-in_err-value
returns-in_err-value g c =
    at-exit _ _ _ _ c.from_residual.ensures.1 (exact_refused g.T.Serialize.seen g.T.Serialize.tree c.args.bytes.now _ c.in_err-value.ensures.value)

pub returns : goal.returns
returns g c = exact_told g.T.Serialize.seen g.T.Serialize.tree c.args.bytes.now _ c.in_ok-value.ensures.value
