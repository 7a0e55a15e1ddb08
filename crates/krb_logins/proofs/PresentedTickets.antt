-- What a client presents by a ticket for the service that it holds is admissible, whatever its authenticator has beside the client's name
-- and time.
use Rattle.std.proofs.Common.{◌≡◌, ◌/◌, ◌%◌, Bool, true, false, None, Some, refl, sym, subst}
use Rattle.std.proofs.lemmas.Bool.{and_from}
use Rattle.asn1_leaves.specs.CharSets.{is_general_string}
use Rattle.asn1_leaves.specs.GeneralizedTime.{seconds_of}
use Rattle.asn1_leaves.specs.declared.date.GeneralizedTime.{GeneralizedTime}
use Rattle.picky_asn1.specs.BitString.{bit_of}
use Rattle.picky_asn1.specs.Bytes.{Bytes}
use Rattle.krb_time.specs.Units.{Micros}
use Rattle.krb_constants.specs.declared.ap_options.TheConstants.{USE_SESSION_KEY}
use Rattle.krb_crypto.specs.Suites.{cipher_confounder_size, cipher_number}
use Rattle.krb_messages.specs.Names.{is_same_name, is_same_realm}
use Rattle.krb_messages.specs.RandomBytes.{AreEnoughForReply, Random, ticket_confounder}
use Rattle.krb_messages.specs.declared.data_types.authenticator.AuthenticatorInner.{AuthenticatorInner}
use Rattle.krb_tickets.specs.Sealing.{Seals}
use Rattle.krb_tickets.specs.Grant.{GrantRecord}
use Rattle.krb_tickets.specs.Parts.{session_key_of, ticket_part}
use Rattle.krb_tickets.specs.Sealed.{ticket_part_bytes}
use Rattle.krb_ap_requests.specs.Acceptable.{IsAcceptable}
use Rattle.krb_ap_requests.specs.Presents.{Choice}
use Rattle.krb_client.specs.Authenticators.{authenticator_parts_of, authenticator_with, options_of}
use Rattle.krb_client.specs.Client.{ClientRecord, CredentialRecord}
use Rattle.krb_service.specs.Admissible.{IsAdmissible, chosen_pair}
use Rattle.krb_service.specs.Pair.{is_among}
use Rattle.krb_service.specs.Service.{ServiceRecord}
use Rattle.krb_logins.specs.Held.{IsHeld}
use Rattle.krb_logins.specs.Honest.{AreParties, IsTicketInTime, clock_of, login_pair}
use Rattle.krb_logins.specs.Parties.{LoginRecord, RealmRecord, RememberedRecord}
use Rattle.krb_logins.specs.Tickets.{IsApHonest, ticket_for}
use Rattle.krb_logins.proofs.GrantTaken.{session_key_sized, suite_of_key}
use Rattle.krb_logins.proofs.Names.{are_texts, component_texts, own_name, realm_text, same_name, same_realm}
use Rattle.krb_logins.proofs.PresentedRuns.{choice_of, own_number, under_entry}
use Rattle.krb_logins.proofs.TicketTimes.{not_early, not_late}
use Rattle.krb_logins.proofs.Times.{moment_told}

-- the client's authenticator of a second, which has the checksum, the subkey and what else isn't the client's of another one
abbrev pub authenticator_beside : ClientRecord → Micros → GeneralizedTime → AuthenticatorInner → AuthenticatorInner
authenticator_beside client moment second other = record (authenticator_with (authenticator_parts_of client (moment % 1000000)) second None None) {
  cksum = other.cksum;
  subkey = other.subkey;
  seq_number = other.seq_number;
  authorization_data = other.authorization_data;
}

-- a client asks under the session key of its ticket, whether it wants a reply or not
pub own_method : (wanted : Bool) → bit_of (options_of wanted) USE_SESSION_KEY ≡ false
own_method true = refl
own_method false = refl

module _ (client : ClientRecord) (realm : RealmRecord) (service : ServiceRecord) (before : RememberedRecord) (login : LoginRecord)
    (parties : AreParties client service) (honest : IsApHonest client realm service before login) where
  abbrev clock : Micros
  clock = clock_of before login

  -- names can be written
  pub client_realm : is_general_string client.realm ≡ true
  client_realm = realm_text client.realm parties.realm

  pub client_name : are_texts client.components ≡ true
  client_name = component_texts client.components parties.name

  pub realm_name : is_general_string realm.name ≡ true
  realm_name = subst (λ name. is_general_string name ≡ true) honest.named.client client_realm

  pub service_name : are_texts login.service ≡ true
  service_name = subst (λ n. are_texts n ≡ true) (sym honest.named.asked) (component_texts service.entry.components parties.entry.1.1)

  -- a ticket for the service that is valid now, with a session key from these random bytes
  module _ (words : Random) (enough : AreEnoughForReply words) (granted : GrantRecord) (valid : IsTicketInTime (seconds_of granted.starttime) (seconds_of granted.endtime) service.seen.skew clock) where
    abbrev grant : GrantRecord
    grant = ticket_for client realm login.service words granted

    -- the confounder of the ticket's part
    abbrev pub for_part : Bytes
    for_part = ticket_confounder (cipher_confounder_size honest.service.account.suite) words

    -- which is sealed under the service's key
    pub part_sealed : (credential : CredentialRecord) (held : IsHeld honest.service.account words grant credential)
        → Seals service.entry.suite service.entry.key (Some service.entry.kvno) 2 for_part (ticket_part_bytes (ticket_part grant)) held.part
    part_sealed credential held =
        under_entry honest.service.account service.entry 2 for_part (ticket_part_bytes (ticket_part grant)) held.part honest.service.suite honest.service.key honest.service.kvno held.sealed

    module _ (second : GeneralizedTime) (of_moment : seconds_of second ≡ login.client_ap / 1000000) (wanted : Bool) (other : AuthenticatorInner) (confounder : Bytes) where
      abbrev choice : Choice
      choice = choice_of wanted service.entry grant (authenticator_beside client login.client_ap second other) for_part confounder

      unfoldable pub acceptable : IsAcceptable service.entry service.seen.skew clock choice
      unfolding ticket_part
      acceptable = record {
        keyed = parties.entry.1.2;
        method = own_method wanted;
        version = refl;
        ticket_version = refl;
        kind = refl;
        realm = same_realm realm.name service.entry.realm (sym honest.named.service);
        name = same_name login.service service.entry.components honest.named.asked;
        kvno = own_number service.entry.kvno;
        part_etype = own_number (cipher_number service.entry.suite);
        started = not_early grant (seconds_of granted.starttime) (seconds_of granted.endtime) service.seen.skew clock valid refl;
        lasts = not_late grant (seconds_of granted.starttime) (seconds_of granted.endtime) service.seen.skew clock valid refl;
        suite = client.suite;
        session = suite_of_key client.suite (session_key_of client.suite words) (session_key_sized client.suite words enough);
        etype = own_number (cipher_number client.suite);
        authenticator_version = refl;
        client = and_from (is_same_realm client.realm realm.name) (is_same_name client.components client.components) (same_realm client.realm realm.name honest.named.client) (own_name client.components);
        time = login.client_ap;
        ctime = moment_told login.client_ap (seconds_of second) of_moment;
      }

      -- its pair is the client's
      pub pair : chosen_pair service clock choice acceptable ≡ login_pair client login
      unfolding ticket_part acceptable
      pair = let same = sym honest.named.client in λ i. record { realm = same i; components = client.components; time = login.client_ap }

      unfoldable pub admissible : IsAdmissible service clock before.admitted choice
      unfolding acceptable
      admissible = record {
        acceptable = acceptable;
        near = honest.near;
        first = subst (λ p. is_among p before.admitted ≡ false) (sym pair) honest.fresh;
      }
