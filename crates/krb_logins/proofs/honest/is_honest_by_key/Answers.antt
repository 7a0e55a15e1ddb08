use Rattle.std.proofs.Common.{rules, ◌≡◌, None, Some, ap, sym, ◌∙◌}
use Rattle.krb_realm_accounts.specs.Account.{AccountRecord}
use Rattle.krb_logins.specs.Honest.{IsHonestLogin}
use Rattle.krb_logins.specs.Input.{held_by, login_of, realm_of}
use Rattle.krb_logins.proofs.honest.is_honest_by_key.Goals as goal

pub returns-then-not-honest : goal.returns-then-not-honest
returns-then-not-honest c = ((λ never. absurd (cc (never))), λ by. sym c.if-not-honest.true ∙ c.in_ok-honest.ensures.1 by.honest)

pub returns-in-Some : goal.returns-in-Some
returns-in-Some c =
    let client = c.args.client.now in
    let realm = realm_of c.args.realm.now in
    let found : realm.look client.components ≡ Some c.in-Some.account.now = search rules in (
      (λ shared.
          let honest : IsHonestLogin client realm c.args.service.now (held_by c.args.service.now) (login_of c.args.input.now) = c.in_ok-honest.ensures.0 c.if-not-honest.false in
          let both : Some honest.client.account ≡ Some c.in-Some.account.now = sym honest.client.found ∙ found in
          let own : honest.client.account ≡ c.in-Some.account.now = cc (both) in
          record { honest = honest; shared = ap (λ (a : AccountRecord). a.key) own ∙ c.has_key.ensures.0 shared }),
      λ by.
          let both : Some by.honest.client.account ≡ Some c.in-Some.account.now = sym by.honest.client.found ∙ found in
          let own : by.honest.client.account ≡ c.in-Some.account.now = cc (both) in
          c.has_key.ensures.1 (sym (ap (λ (a : AccountRecord). a.key) own) ∙ by.shared),
    )

pub returns-in-None : goal.returns-in-None
returns-in-None c =
    let client = c.args.client.now in
    let realm = realm_of c.args.realm.now in
    let none : realm.look client.components ≡ None = search rules in
    ((λ never. absurd (cc (never))), λ by. let both = sym none ∙ by.honest.client.found in absurd (cc (both)))
