use Rattle.krb_authenticity.proofs.HonestReplies.{ap_reply_unforged, first_reply_unforged, further_reply_unforged}
use Rattle.krb_authenticity.proofs.Unforged.{realm_unforged, service_unforged}
use Rattle.krb_authenticity.proofs.laws.honest_is_unforged.Goals as goal

pub returns-clause-realm : goal.returns-clause-realm
returns-clause-realm g c = realm_unforged (g.P.Pkinit.rows c.args.pkinit.now)

pub returns-clause-service : goal.returns-clause-service
returns-clause-service g c = service_unforged (g.P.Pkinit.rows c.args.pkinit.now)

pub returns-clause-first_reply : goal.returns-clause-first_reply
returns-clause-first_reply g c = first_reply_unforged (g.P.Pkinit.rows c.args.pkinit.now)

pub returns-clause-further_reply : goal.returns-clause-further_reply
returns-clause-further_reply g c = further_reply_unforged (g.P.Pkinit.rows c.args.pkinit.now)

pub returns-clause-ap_reply : goal.returns-clause-ap_reply
returns-clause-ap_reply g c = ap_reply_unforged (g.P.Pkinit.rows c.args.pkinit.now)
