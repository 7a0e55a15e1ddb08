use Rattle.x509_keys.specs.KeyInfoLaws.{same_parts}
use Rattle.x509_keys.proofs.subject_public_key_info.SubjectPublicKeyInfoClone.clone.Goals as goal

pub returns : goal.returns
returns c = record { cases = same_parts _ _ c.in_ok-algorithm.ensures.cases c.in_ok-subject_public_key.ensures.cases }
