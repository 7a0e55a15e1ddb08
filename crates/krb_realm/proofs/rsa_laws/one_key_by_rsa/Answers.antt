use Rattle.std.proofs.Common.{Some}
use Rattle.rsa_keys.specs.Functions.{rsa_functions}
use Rattle.krb_realm.proofs.ByRsa.{by_rsa}
use Rattle.krb_realm.proofs.rsa_laws.one_key_by_rsa.Goals as goal

pub returns : goal.returns
returns c = λ client certificate anchor client_own realm trust realm_own service before login result after parties enough granting keyed unlimited honest run.
    c.one_key_by_certificate.ensures client certificate anchor (rsa_functions c.args.group (Some client_own)) realm trust (rsa_functions c.args.group (Some realm_own)) service before login result after
    parties enough granting keyed unlimited
    (by_rsa c.args.group client certificate anchor client_own realm trust realm_own service before login c.one_secret.ensures honest) run
