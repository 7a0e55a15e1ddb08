use Rattle.krb_realm.proofs.Granted.{asked, granted}
use Rattle.krb_realm.proofs.certified_laws.agreement_granted.Goals as goal

pub returns : goal.returns
returns c = record { asked = asked; granted = granted }
