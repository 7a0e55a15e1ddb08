use Rattle.std.proofs.Common.{rules, ◌≡◌, true, false, sym, subst, ◌∙◌}
use Rattle.krb_messages.specs.Names.{is_same_realm}
use Rattle.krb_realm_accounts.specs.Names.{AreComponents, parts}
use Rattle.krb_logins.specs.Honest.{AreNamed}
use Rattle.krb_logins.specs.Input.{login_of, realm_of}
use Rattle.krb_logins.proofs.Judged.{judged_last}
use Rattle.krb_logins.proofs.Names.{equal_realms, same_realm}
use Rattle.krb_logins.proofs.honest.are_named.Goals as goal

pub returns-then-not-is_same_realm : goal.returns-then-not-is_same_realm
returns-then-not-is_same_realm c =
    let client = c.args.client.now in
    let realm = realm_of c.args.realm.now in
    let other : is_same_realm client.realm realm.name ≡ false = search rules in
    ((λ never. absurd (cc (never))), λ named. sym other ∙ same_realm client.realm realm.name named.client)

pub returns-then-not-is_same_realm-2 : goal.returns-then-not-is_same_realm-2
returns-then-not-is_same_realm-2 c =
    let service = c.args.service.now in
    let realm = realm_of c.args.realm.now in
    let other : is_same_realm service.entry.realm realm.name ≡ false = search rules in
    ((λ never. absurd (cc (never))), λ named. sym other ∙ same_realm service.entry.realm realm.name named.service)

pub is_asked-requires : goal.is_asked-requires
is_asked-requires c =
    let name : c.components.result.now ≡ c.args.service.now.entry.components = search rules in
    subst AreComponents (sym name) c.is_well_formed.ensures.1.1

pub returns : goal.returns
returns c =
    let client = c.args.client.now in
    let realm = realm_of c.args.realm.now in
    let service = c.args.service.now in
    let own : is_same_realm client.realm realm.name ≡ true = search rules in
    let other : is_same_realm service.entry.realm realm.name ≡ true = search rules in
    let name : c.components.result.now ≡ service.entry.components = search rules in
    judged_last (parts c.args.input.now.service.now ≡ c.components.result.now) (AreNamed client realm service (login_of c.args.input.now)) c.is_asked.result
    (λ asked. record { client = equal_realms client.realm realm.name own; service = equal_realms service.entry.realm realm.name other; asked = asked ∙ name })
    (λ named. named.asked ∙ sym name) c.is_asked.ensures
