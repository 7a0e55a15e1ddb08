use Rattle.std.proofs.Common.{rules, ◌≡◌, length, None, refl, sym, ◌∙◌}
use Rattle.krb_logins.specs.Honest.{AreParties, IsHonestLogin}
use Rattle.krb_logins.specs.Input.{held_by, login_of, realm_of}
use Rattle.krb_logins.proofs.Judged.{judged_last}
use Rattle.gss_initiator.specs.Initiating.{refusal_of}
use Rattle.gss_logins.specs.Granted.{IsHonestGssLogin}
use Rattle.gss_logins.proofs.honest.is_honest.Goals as goal

pub returns-then-not-is_bound : goal.returns-then-not-is_bound
returns-then-not-is_bound c = ((λ never. absurd (cc (never))), λ by. sym c.if-not-is_bound.true ∙ c.is_bound.ensures.1 by.answering.bound)

pub returns-then-is_some : goal.returns-then-is_some
returns-then-is_some c = ((λ never. absurd (cc (never))), λ by. let offered : refusal_of c.args.client.now.suite c.args.initial.flags ≡ None = by.asked.offered in search rules)

pub returns : goal.returns
returns c =
    let client = c.args.client.now in
    let realm = realm_of c.args.realm.now in
    let service = c.args.service.now in
    let login = login_of c.args.input.now in
    let parties : AreParties client service = record { realm = c.is_well_formed.ensures.realm; name = c.is_well_formed.ensures.name; entry = c.is_well_formed-2.ensures } in
    let offered : refusal_of client.suite c.args.initial.flags ≡ None = search rules in
    let hashed : length c.args.initial.bindings ≡ 16 = search rules in
    judged_last (IsHonestLogin client realm service (held_by service) login)
    (IsHonestGssLogin client realm service c.args.terms (held_by service) login c.args.initial c.args.words.now) c.is_honest.result
    (λ honest. record {
      parties = parties;
      enough = c.requires.login;
      honest = honest;
      asked = record { offered = offered; hashed = hashed; enough = c.requires.context };
      remembered = record { greatest = refl; window = c.holds_window.ensures };
      answering = record { bound = c.is_bound.ensures.0 c.if-not-is_bound.false; enough = c.requires.reply };
    })
    (λ by. by.honest) c.is_honest.ensures
