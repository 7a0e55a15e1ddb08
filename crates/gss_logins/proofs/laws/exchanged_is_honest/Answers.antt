use Rattle.krb_logins.proofs.EndsWithOneKey.{exchanges_held}
use Rattle.gss_logins.proofs.Granted.{honest_of_grant}
use Rattle.gss_logins.proofs.laws.exchanged_is_honest.Goals as goal

pub returns : goal.returns
returns g c = λ client realm service terms before login initial words credential met asked remembered answering made.
    let holds = exchanges_held client (g.M.Means.means c.args.means.now) realm (g.P.Pkinit.rows c.args.pkinit.now) service before login met credential made in
    honest_of_grant client realm service terms before login initial words (record { parties = met.parties; enough = met.enough; honest = met.honest; asked = asked; remembered = remembered; answering = answering })
    holds.0 holds.2.0 holds.1 holds.2.1 credential holds.2.2
