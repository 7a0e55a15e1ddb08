use Rattle.std.proofs.Common.{◌≡◌, refl}
use Rattle.asn1_leaves.specs.GeneralizedTime.{seconds_of}
use Rattle.krb_kdc_exchanges.specs.Times.{start_of}
use Rattle.krb_logins.specs.Honest.{first_end, realm_skew}
use Rattle.krb_logins.specs.Input.{login_of, realm_of}
use Rattle.krb_logins.proofs.Judged.{in_time_as}
use Rattle.krb_logins.proofs.honest.is_first_in_time.Goals as goal

pub returns : goal.returns
returns c =
    let realm = realm_of c.args.realm.now in
    let login = login_of c.args.input.now in
    let skew : c.skew.result ≡ realm_skew realm = c.skew.ensures.value in
    in_time_as c.is_in_time.result (start_of login.realm_as) (first_end realm login) (realm_skew realm) login.realm_tgs
    (seconds_of c.start_of-start.result) (seconds_of c.first_end-end.result) c.skew.result login.realm_tgs
    c.start_of-start.ensures c.first_end-end.ensures skew refl c.is_in_time.ensures
