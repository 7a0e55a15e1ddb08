-- An honest login has an honest AS exchange and an honest TGS exchange, each as one with options.
use Rattle.std.proofs.Common.{◌≡◌, ◌<◌, true, false, Some, refl, sym, ap, subst, ◌∙◌}
use Rattle.asn1_leaves.specs.GeneralizedTime.{seconds_of}
use Rattle.krb_time.specs.Units.{Seconds}
use Rattle.krb_realm_accounts.specs.Names.{are_components}
use Rattle.krb_messages.specs.TicketGranting.{krbtgt_of}
use Rattle.krb_kdc_exchanges.specs.Rows.{PkinitRows}
use Rattle.krb_kdc_exchanges.specs.Times.{end_of, start_of}
use Rattle.krb_kdc_exchanges.specs.declared.span.Span.{Span}
use Rattle.krb_client.specs.Client.{ClientRecord, CredentialRecord}
use Rattle.krb_client.specs.Means.{MeansRecord}
use Rattle.krb_client.specs.Options.{plain_options}
use Rattle.krb_service.specs.Service.{ServiceRecord}
use Rattle.krb_logins.specs.Held.{IsFirstSpan, IsHeld, first_grant}
use Rattle.krb_logins.specs.Honest.{IsTicketInTime, first_end, realm_skew}
use Rattle.krb_logins.specs.Laws.{IsMet}
use Rattle.krb_logins.specs.Parties.{LoginRecord, RealmRecord, RememberedRecord, tgs_of}
use Rattle.krb_logins.specs.Tickets.{AreOfOneRealm, HoldsGranting, IsAsHonest, IsTgsHonest}

-- a plain request asks for no other ticket
pub never : {A : Type 0} → false ≡ true → A
never is = absurd (cc (is))

module _ (client : ClientRecord) (means : MeansRecord) (realm : RealmRecord) (rows : PkinitRows) (service : ServiceRecord) (before : RememberedRecord) (login : LoginRecord)
    (met : IsMet client means realm rows service before login) where
  abbrev pub one_realm : AreOfOneRealm client realm
  one_realm = record {
    realm_name = met.parties.realm;
    name = met.parties.name;
    same = met.honest.named.client;
    known = met.honest.client;
    free = met.unlimited.client_free met.honest.client.account met.honest.client.found;
    keyed = met.keyed;
  }

  abbrev pub as_honest : IsAsHonest client plain_options means realm rows met.honest.client.account login
  as_honest = record {
    enough = met.enough.realm_as;
    granting = met.granting;
    granting_free = met.unlimited.granting_free met.granting.account met.granting.found;
    not_renewed = refl;
    not_forwarded = refl;
    lasts = met.honest.timely.first.lasts;
    authenticated = met.authenticated;
  }

  module _ (first : Span) (first_is : IsFirstSpan realm login first) (granting : CredentialRecord)
      (held : IsHeld met.granting.account login.realm_words_as (first_grant client realm login first) granting) where
    -- the client holds the first ticket
    abbrev pub holds_first : HoldsGranting client realm granting
    holds_first = record {
      account = met.granting.account;
      found = ap (λ name. realm.look (krbtgt_of name)) met.honest.named.client ∙ met.granting.found;
      words = login.realm_words_as;
      enough = met.enough.realm_as;
      grant = first_grant client realm login first;
      held = held;
    }

    -- whose times are those of the first ticket
    starts : start_of login.realm_as ≡ seconds_of granting.starttime
    starts = sym (ap seconds_of held.starttime ∙ first_is.starts)

    pub ends : first_end realm login ≡ seconds_of granting.endtime
    ends = sym (ap seconds_of held.endtime ∙ first_is.ends)

    pub valid : IsTicketInTime (seconds_of granting.starttime) (seconds_of granting.endtime) (realm_skew realm) login.realm_tgs
    valid =
        let started = subst (λ (start : Seconds). IsTicketInTime start (first_end realm login) (realm_skew realm) login.realm_tgs) starts met.honest.timely.first in
        subst (λ (end : Seconds). IsTicketInTime (seconds_of granting.starttime) end (realm_skew realm) login.realm_tgs) ends started

    pub further_lasts : start_of login.realm_tgs < end_of realm.settings.lifetime (start_of login.realm_tgs) (Some (seconds_of granting.endtime)) (seconds_of login.till)
    further_lasts =
        subst (λ (old : Seconds). start_of login.realm_tgs < end_of realm.settings.lifetime (start_of login.realm_tgs) (Some old) (seconds_of login.till)) ends met.honest.timely.further.lasts

    -- the exchange by it is honest
    abbrev pub tgs_honest : IsTgsHonest client realm (tgs_of login) granting
    tgs_honest = record {
      enough = met.enough.realm_tgs;
      named = subst (λ name. are_components name ≡ true) (sym met.honest.named.asked) met.parties.entry.1.1;
      account = met.honest.service.account;
      found = ap realm.look met.honest.named.asked ∙ met.honest.service.found;
      free = met.unlimited.service_free met.honest.service.account met.honest.service.found;
      near = met.honest.timely.tgs_near;
      valid = valid;
      lasts = λ is. further_lasts;
      renews = λ is. never is;
      forwards = λ is. never is;
    }
