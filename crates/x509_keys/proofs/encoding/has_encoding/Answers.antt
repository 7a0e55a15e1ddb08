use Rattle.x509_keys.proofs.Encoded.{encoded}
use Rattle.x509_keys.proofs.encoding.has_encoding.Goals as goal

pub returns : goal.returns
returns c =
    encoded c.args.algorithm.now c.oid.result.now c.parameters.result.now c.oid.ensures c.as_bytes-octets.ensures.valid c.parameters.ensures c.hold_curve.ensures
