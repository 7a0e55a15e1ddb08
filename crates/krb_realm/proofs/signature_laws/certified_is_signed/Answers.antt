use Rattle.krb_realm.proofs.HonestSignatures.{signatures_made}
use Rattle.krb_realm.proofs.signature_laws.certified_is_signed.Goals as goal

pub returns : goal.returns
returns c = signatures_made
