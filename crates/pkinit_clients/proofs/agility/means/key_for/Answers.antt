use Rattle.pkinit_clients.specs.AgileMeans.{asked_context}
use Rattle.pkinit_clients.proofs.AgileKeyLemmas.{agreed_is, derived_is}
use Rattle.pkinit_clients.proofs.agility.means.key_for.Goals as goal

pub returns-in_default : goal.returns-in_default
returns-in_default c =
    agreed_is c.args.client.now c.agreed_key.result c.suite-suite.result c.args.secret.items
    (asked_context c.args.client.now c.args.request.now c.args.as_req.now c.args.padata.now) c.suite-suite.ensures c.agreed_key.ensures c.args.kdf c.in_default.is

pub returns : goal.returns
returns c =
    derived_is c.args.client.now c.args.request.now c.realm.result.now _ _ c.args.as_req.now c.args.padata.now c.derived_key.result c.suite-suite.result c.in-Some.kdf c.args.secret.items
    c.suite-suite.ensures c.realm.ensures c.client_of.ensures c.service_of.ensures c.derived_key.ensures c.args.kdf c.in-Some.is
