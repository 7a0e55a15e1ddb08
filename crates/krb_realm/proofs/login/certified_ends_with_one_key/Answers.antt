use Rattle.std.proofs.Common.{subst}
use Rattle.krb_logins.specs.Input.{login_of}
use Rattle.krb_logins.specs.LoginRun.{LoginRun}
use Rattle.krb_realm.specs.Clients.{ClientBy, means_by}
use Rattle.krb_realm.specs.Logins.{realm_record, realm_rows}
use Rattle.krb_realm.proofs.GrantingRealms.{granting, unlimited}
use Rattle.krb_realm.proofs.login.certified_ends_with_one_key.Goals as goal

pub returns : goal.returns
returns g c = λ certificate anchor before result after by honest run.
    let client = c.args.client.now in
    let own = g.C.KeyFunctions.functions c.args.client_keys.now in
    let keys = g.R.KeyFunctions.functions c.args.realm_keys.now in
    let realm = c.args.realm.now in
    c.one_key_by_certificate.ensures client.client certificate anchor own (realm_record realm) realm.trust keys c.args.service.now before (login_of c.args.input.now) result after
    (record { realm = c.is_well_formed.ensures.realm; name = c.is_well_formed.ensures.name; entry = c.is_well_formed-2.ensures })
    c.requires (granting c.args.realm.now c.is_granting.ensures) c.are_keyed.ensures (unlimited client.client c.args.service.now c.args.realm.now c.are_free.ensures) honest
    (subst (λ (b : ClientBy). LoginRun client.client (means_by b own) (realm_record realm) (realm_rows realm keys) c.args.service.now (login_of c.args.input.now) before result after) by run)
