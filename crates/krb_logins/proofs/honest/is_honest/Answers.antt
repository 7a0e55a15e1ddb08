use Rattle.std.proofs.Common.{◌≡◌, false, sym, ◌∙◌}
use Rattle.krb_service.specs.Pair.{is_among}
use Rattle.krb_logins.specs.Honest.{IsHonestLogin, login_pair}
use Rattle.krb_logins.specs.Input.{held_by, login_of, realm_of}
use Rattle.krb_logins.proofs.Judged.{judged_last}
use Rattle.krb_logins.proofs.honest.is_honest.Goals as goal

pub returns-then-not-named : goal.returns-then-not-named
returns-then-not-named c = ((λ never. absurd (cc (never))), λ honest. sym c.if-not-named.true ∙ c.in_ok-named.ensures.1 honest.named)

pub returns-then-not-knows_client : goal.returns-then-not-knows_client
returns-then-not-knows_client c = ((λ never. absurd (cc (never))), λ honest. sym c.if-not-knows_client.true ∙ c.knows_client.ensures.1 honest.client)

pub returns-then-not-knows_service : goal.returns-then-not-knows_service
returns-then-not-knows_service c = ((λ never. absurd (cc (never))), λ honest. sym c.if-not-knows_service.true ∙ c.knows_service.ensures.1 honest.service)

pub returns-then-not-is_timely : goal.returns-then-not-is_timely
returns-then-not-is_timely c = ((λ never. absurd (cc (never))), λ honest. sym c.if-not-is_timely.true ∙ c.is_timely.ensures.1 honest.timely)

pub returns : goal.returns
returns c =
    let client = c.args.client.now in
    let service = c.args.service.now in
    let login = login_of c.args.input.now in
    judged_last (is_among (login_pair client login) service.seen.held ≡ false) (IsHonestLogin client (realm_of c.args.realm.now) service (held_by service) login) c.is_first.result
    (λ first. record {
      named = c.in_ok-named.ensures.0 c.if-not-named.false;
      client = c.knows_client.ensures.0 c.if-not-knows_client.false;
      service = c.knows_service.ensures.0 c.if-not-knows_service.false;
      timely = c.is_timely.ensures.0 c.if-not-is_timely.false;
      fresh = first;
    })
    (λ honest. honest.fresh) c.is_first.ensures
