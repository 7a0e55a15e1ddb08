use Rattle.x509_keys.specs.KeyFunctions.{no_functions}
use Rattle.krb_logins.specs.Input.{login_of}
use Rattle.krb_realm.specs.Logins.{realm_record}
use Rattle.krb_memory_realms.proofs.Answered.{same_rows}
use Rattle.krb_realm.proofs.KeyedLogins.{keyed_run}
use Rattle.krb_realm.proofs.GrantingRealms.{granting, unlimited}
use Rattle.krb_realm.proofs.login.keyed_ends_with_one_key.Goals as goal

pub returns : goal.returns
returns c = λ key before result after by honest run.
    let client = c.args.client.now in
    c.one_key_by_password.ensures client.client key.bytes (realm_record c.args.realm.now) c.args.service.now before (login_of c.args.input.now) result after
    (record { realm = c.is_well_formed.ensures.realm; name = c.is_well_formed.ensures.name; entry = c.is_well_formed-2.ensures })
    c.requires (granting c.args.realm.now c.is_granting.ensures) c.are_keyed.ensures (unlimited client.client c.args.service.now c.args.realm.now c.are_free.ensures) honest
    (keyed_run client key by c.is_well_formed.ensures.suite (same_rows (λ keys. no_functions) c.pkinit.ensures.trust c.pkinit.ensures.keys)
    (realm_record c.args.realm.now) c.args.service.now (login_of c.args.input.now) before result after run)
