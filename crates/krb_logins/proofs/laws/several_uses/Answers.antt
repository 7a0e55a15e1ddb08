use Rattle.krb_logins.proofs.Uses.{each_use}
use Rattle.krb_logins.proofs.laws.several_uses.Goals as goal

pub returns : goal.returns
returns g c = λ client realm service before login credential uses exchanges met run.
    each_use client (g.M.Means.means c.args.means.now) realm (g.P.Pkinit.rows c.args.pkinit.now) service login credential exchanges before uses met run
