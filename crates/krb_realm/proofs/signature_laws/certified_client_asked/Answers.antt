use Rattle.krb_realm.proofs.Signatures.{client_certified}
use Rattle.krb_realm.proofs.signature_laws.certified_client_asked.Goals as goal

pub returns : goal.returns
returns c = client_certified
