use Rattle.krb_logins.proofs.Near.{near_is_timely}
use Rattle.krb_logins.proofs.laws.near_is_timely.Goals as goal

pub returns : goal.returns
returns c = λ realm service before login is near lasting. near_is_timely realm service before login is.0 near lasting
