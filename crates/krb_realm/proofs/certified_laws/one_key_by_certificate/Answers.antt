use Rattle.krb_logins.proofs.EndsWithOneKey.{ends_with_one_key}
use Rattle.pkinit_validation.specs.PkinitRows.{pkinit_rows}
use Rattle.pkinit_clients.specs.Means.{by_certificate}
use Rattle.krb_realm.proofs.ByCertificate.{met_by_certificate}
use Rattle.krb_realm.proofs.certified_laws.one_key_by_certificate.Goals as goal

pub returns : goal.returns
returns c = λ client certificate anchor client_keys realm trust realm_keys service before login result after parties enough granting keyed unlimited honest run.
    ends_with_one_key client (by_certificate certificate anchor client_keys) realm (pkinit_rows trust realm_keys) service before login
    (met_by_certificate client certificate anchor client_keys realm trust realm_keys service before login parties enough granting keyed unlimited honest) result after run
