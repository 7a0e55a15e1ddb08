use Rattle.krb_realm_files.proofs.Sources.{for_octets}
use Rattle.krb_realm_files.proofs.realm_source.RealmSourcePkinitSource.pkinit_for.Goals as goal

pub returns-in-Some : goal.returns-in-Some
returns-in-Some c =
    for_octets c.args.self.now.realm.now.settings.policy c.policy-policy.result c.args.self.now.realm.now.pkinit c.in-Some.octets c.as_bytes.result.now c.args.request.now c.given_by.result
    c.policy-policy.ensures c.in-Some.is c.as_bytes.ensures c.given_by.ensures
