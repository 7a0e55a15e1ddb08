use Rattle.krb_kdc_exchanges.proofs.GrantedSuites.{never_des3}
use Rattle.krb_kdc_exchanges.proofs.tgs_exchange.laws.no_des3.Goals as goal

pub returns : goal.returns
returns c = λ policy client service numbers limits none other. never_des3 policy client service numbers limits none other
