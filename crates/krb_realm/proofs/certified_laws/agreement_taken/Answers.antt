use Rattle.krb_realm.proofs.Taken.{taken}
use Rattle.krb_realm.proofs.certified_laws.agreement_taken.Goals as goal

pub returns : goal.returns
returns c = taken
