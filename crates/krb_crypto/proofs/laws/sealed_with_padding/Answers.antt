use Rattle.krb_crypto.proofs.SealingLemmas.{sealed_with_padding}
use Rattle.krb_crypto.proofs.laws.sealed_with_padding.Goals as goal

pub returns : goal.returns
returns c = sealed_with_padding
