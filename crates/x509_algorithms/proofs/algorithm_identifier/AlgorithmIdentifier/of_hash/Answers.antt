use Rattle.x509_algorithms.specs.HashIdentifiers.{hash_null_of}
use Rattle.x509_algorithms.proofs.algorithm_identifier.AlgorithmIdentifier.of_hash.Goals as goal

pub of_parts-requires : goal.of_parts-requires
of_parts-requires c = hash_null_of c.into_oid-oid.result.0 c.into_oid-oid.ensures.hash
