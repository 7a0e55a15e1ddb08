use Rattle.std.proofs.Common.{sym, ◌∙◌}
use Rattle.krb_logins.proofs.honest.is_timely.Goals as goal

pub returns-then-not-is_near_realm : goal.returns-then-not-is_near_realm
returns-then-not-is_near_realm c = ((λ never. absurd (cc (never))), λ timely. sym c.if-not-is_near_realm.true ∙ c.is_near_realm.ensures.1 (timely.as_near, timely.tgs_near))

pub returns-then-not-is_near_service : goal.returns-then-not-is_near_service
returns-then-not-is_near_service c = ((λ never. absurd (cc (never))), λ timely. sym c.if-not-is_near_service.true ∙ c.is_near_service.ensures.1 timely.ap_near)

pub returns-then-not-is_first_in_time : goal.returns-then-not-is_first_in_time
returns-then-not-is_first_in_time c = ((λ never. absurd (cc (never))), λ timely. sym c.if-not-is_first_in_time.true ∙ c.is_first_in_time.ensures.1 timely.first)

pub returns : goal.returns
returns c =
    let near = c.is_near_realm.ensures.0 c.if-not-is_near_realm.false in (
      (λ further. record {
        as_near = near.0;
        tgs_near = near.1;
        ap_near = c.is_near_service.ensures.0 c.if-not-is_near_service.false;
        first = c.is_first_in_time.ensures.0 c.if-not-is_first_in_time.false;
        further = c.is_further_in_time.ensures.0 further;
      }),
      λ timely. c.is_further_in_time.ensures.1 timely.further,
    )
