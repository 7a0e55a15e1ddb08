use Rattle.std.proofs.Common.{rules, ◌≡◌, None, Some, sym, ap, ◌∙◌}
use Rattle.krb_ap_requests.specs.Entry.{EntryRecord}
use Rattle.krb_realm_accounts.specs.Account.{AccountRecord}
use Rattle.krb_logins.specs.Input.{realm_of}
use Rattle.krb_logins.proofs.honest.knows_service.Goals as goal

pub returns-in-Some : goal.returns-in-Some
returns-in-Some c =
    let service = c.args.service.now in
    let realm = realm_of c.args.realm.now in
    let found : realm.look service.entry.components ≡ Some c.in-Some.account.now = search rules in
    let entry : c.entry-entry.result.now ≡ service.entry = search rules in (
      (λ of_entry.
          let is = c.is_of_entry.ensures.0 of_entry in
          record {
            account = c.in-Some.account.now;
            found = found;
            suite = is.0 ∙ ap (λ (e : EntryRecord). e.suite) entry;
            key = is.1 ∙ ap (λ (e : EntryRecord). e.key) entry;
            kvno = is.2 ∙ ap (λ (e : EntryRecord). e.kvno) entry;
          }),
      λ known.
          let both : Some known.account ≡ Some c.in-Some.account.now = sym known.found ∙ found in
          let own : known.account ≡ c.in-Some.account.now = cc (both) in
          c.is_of_entry.ensures.1 (
            sym (ap (λ (a : AccountRecord). a.suite) own) ∙ known.suite ∙ sym (ap (λ (e : EntryRecord). e.suite) entry),
            sym (ap (λ (a : AccountRecord). a.key) own) ∙ known.key ∙ sym (ap (λ (e : EntryRecord). e.key) entry),
            sym (ap (λ (a : AccountRecord). a.kvno) own) ∙ known.kvno ∙ sym (ap (λ (e : EntryRecord). e.kvno) entry),
          ),
    )

pub returns-in-None : goal.returns-in-None
returns-in-None c =
    let service = c.args.service.now in
    let realm = realm_of c.args.realm.now in
    let none : realm.look service.entry.components ≡ None = search rules in
    ((λ never. absurd (cc (never))), λ known. let both = sym none ∙ known.found in absurd (cc (both)))
