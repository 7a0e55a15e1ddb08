use Rattle.std.proofs.Common.{rules, ◌≡◌, None, Some, sym, ap, ◌∙◌}
use Rattle.krb_realm_accounts.specs.Account.{AccountRecord}
use Rattle.krb_logins.specs.Input.{realm_of}
use Rattle.krb_logins.proofs.honest.knows_client.Goals as goal

pub returns-in-Some : goal.returns-in-Some
returns-in-Some c =
    let client = c.args.client.now in
    let realm = realm_of c.args.realm.now in
    let found : realm.look client.components ≡ Some c.in-Some.account.now = search rules in
    let suite : c.suite.result ≡ client.suite = search rules in (
      (λ suited. record { account = c.in-Some.account.now; found = found; suite = c.has_suite.ensures.0 suited ∙ suite }),
      λ known.
          let both : Some known.account ≡ Some c.in-Some.account.now = sym known.found ∙ found in
          let own : known.account ≡ c.in-Some.account.now = cc (both) in
          c.has_suite.ensures.1 (sym (ap (λ (a : AccountRecord). a.suite) own) ∙ known.suite ∙ sym suite),
    )

pub returns-in-None : goal.returns-in-None
returns-in-None c =
    let client = c.args.client.now in
    let realm = realm_of c.args.realm.now in
    let none : realm.look client.components ≡ None = search rules in
    ((λ never. absurd (cc (never))), λ known. let both = sym none ∙ known.found in absurd (cc (both)))
