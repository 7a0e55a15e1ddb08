use Rattle.std.proofs.Common.{refl}
use Rattle.x509_keys.specs.PrivateLaws.{same_parts}
use Rattle.x509_keys.proofs.private_key_fields.PrivateKeyFieldsClone.clone.Goals as goal

pub returns : goal.returns
returns c = record { cases = same_parts _ _ refl c.in_ok-private_key_algorithm.ensures.cases c.in_ok-private_key.ensures.cases c.in_ok-public_key.ensures }
