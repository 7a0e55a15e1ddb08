use Rattle.x509_keys.specs.PrivateInfoLaws.{same_info}
use Rattle.x509_keys.proofs.private_key_info.PrivateKeyInfoClone.clone.Goals as goal

pub returns : goal.returns
returns c = record { cases = same_info _ _ c.in_ok-fields.ensures.cases }
