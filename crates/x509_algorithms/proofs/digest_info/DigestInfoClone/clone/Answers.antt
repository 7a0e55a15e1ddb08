use Rattle.x509_algorithms.specs.DigestRows.{same_digest}
use Rattle.x509_algorithms.proofs.digest_info.DigestInfoClone.clone.Goals as goal

pub returns : goal.returns
returns c = record { cases = same_digest _ _ c.in_ok-oid.ensures.cases c.in_ok-digest.ensures.cases }
