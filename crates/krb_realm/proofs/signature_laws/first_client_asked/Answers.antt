use Rattle.krb_realm.proofs.FirstAsked.{client_asked}
use Rattle.krb_realm.proofs.signature_laws.first_client_asked.Goals as goal

pub returns : goal.returns
returns c = client_asked
