use Rattle.gss_logins.proofs.Granted.{honest_of_grant}
use Rattle.gss_logins.proofs.laws.granted_is_honest.Goals as goal

pub returns : goal.returns
returns c = λ client realm service terms before login initial words is first span credential first_is further_is held.
    honest_of_grant client realm service terms before login initial words is first span first_is further_is credential held
