use Rattle.std.proofs.Common.{◌≡◌, Some, ap, ◌∙◌}
use Rattle.asn1_leaves.specs.GeneralizedTime.{seconds_of}
use Rattle.krb_time.specs.Units.{Seconds}
use Rattle.krb_kdc_exchanges.specs.Times.{end_of, start_of}
use Rattle.krb_service.specs.Seen.{SeenRecord}
use Rattle.krb_logins.specs.Honest.{clock_of, further_end}
use Rattle.krb_logins.specs.Input.{held_by, login_of, realm_of}
use Rattle.krb_logins.proofs.Judged.{in_time_as}
use Rattle.krb_logins.proofs.honest.is_further_in_time.Goals as goal

pub returns : goal.returns
returns c =
    let realm = realm_of c.args.realm.now in
    let service = c.args.service.now in
    let login = login_of c.args.input.now in
    let end_is : seconds_of c.end_of-end.result ≡ further_end realm login =
    c.end_of-end.ensures
    ∙ ap (λ (s : Seconds). end_of realm.settings.lifetime s (Some (seconds_of c.first_end-old.result)) (seconds_of login.till)) c.start_of-start.ensures
    ∙ ap (λ (old : Seconds). end_of realm.settings.lifetime (start_of login.realm_tgs) (Some old) (seconds_of login.till)) c.first_end-old.ensures in
    let skew : c.skew.result ≡ service.seen.skew = c.skew.ensures.value ∙ ap (λ (seen : SeenRecord). seen.skew) c.seen.ensures in
    in_time_as c.is_in_time.result (start_of login.realm_tgs) (further_end realm login) service.seen.skew (clock_of (held_by service) login)
    (seconds_of c.start_of-start.result) (seconds_of c.end_of-end.result) c.skew.result c.clock_of.result
    c.start_of-start.ensures end_is skew c.clock_of.ensures c.is_in_time.ensures
