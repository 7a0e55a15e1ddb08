use Rattle.asn1_codec.proofs.Chain.{at-exit, refused-as}
use Rattle.x509_fields.proofs.raw_algorithm_identifier.RawAlgorithmIdentifierDeserialize.deserialize.Goals as goal

pub returns-in_err-row : goal.returns-in_err-row
returns-in_err-row g c =
    at-exit _ _ _ _ c.from_residual.ensures.1
    (refused-as _ _ _ _ _ c.in_err-row.ensures (λ bytes q. ((q.0.algorithm, (q.0.parameters, tt)), q.1)))
