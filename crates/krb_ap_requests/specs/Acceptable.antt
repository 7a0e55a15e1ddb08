-- Which choices of a client present something to a service (RFC 4120, section 3.2.3).
use Rattle.std.specs.Prelude.{◌≡◌, true, false, length, Some}
use Rattle.std.specs.Option.{option_map_or}
use Rattle.picky_asn1.specs.BitString.{bit_of}
use Rattle.asn1_leaves.specs.GeneralizedTime.{seconds_of}
use Rattle.krb_crypto.specs.declared.suite.CipherSuite.{CipherSuite}
use Rattle.krb_crypto.specs.Suites.{cipher_key_size, cipher_number}
use Rattle.krb_tickets.specs.Keys.{suite_of}
use Rattle.krb_messages.specs.Names.{components, is_same_name, is_same_realm}
use Rattle.krb_constants.specs.declared.ap_options.TheConstants.{MUTUAL_REQUIRED, USE_SESSION_KEY}
use Rattle.krb_constants.specs.declared.types.TheConstants.{AP_REQ_MSG_TYPE, KERBEROS_VERSION}
use Rattle.picky_asn1.specs.Numbers.{is_number}
use Rattle.krb_time.specs.Times.{moment_at}
use Rattle.krb_time.specs.Units.{Micros}
use Rattle.krb_ap_requests.specs.ApTable.{is_early, is_late, is_of_client}
use Rattle.krb_ap_requests.specs.Entry.{EntryRecord}
use Rattle.krb_ap_requests.specs.Presents.{Choice}
use Rattle.krb_ap_requests.specs.declared.presented.Presented.{Presented}

-- the choice is for the service of this entry, its ticket counts at the moment, and its authenticator is of the
-- ticket's client; `suite` is that of the session key, and `time` the moment of the authenticator
pub record IsAcceptable (entry : EntryRecord) (skew moment : Micros) (choice : Choice) : Type 0 where
  pub keyed : length entry.key ≡ cipher_key_size entry.suite
  pub method : bit_of choice.outer.options USE_SESSION_KEY ≡ false
  pub version : is_number KERBEROS_VERSION choice.outer.pvno ≡ true
  pub ticket_version : is_number KERBEROS_VERSION choice.outer.tkt_vno ≡ true
  pub kind : is_number AP_REQ_MSG_TYPE choice.outer.msg_type ≡ true
  pub realm : is_same_realm choice.outer.realm entry.realm ≡ true
  pub name : is_same_name (components choice.outer.service) entry.components ≡ true
  pub kvno : option_map_or (is_number entry.kvno) choice.outer.part_kvno true ≡ true
  pub part_etype : is_number (cipher_number entry.suite) choice.outer.part_etype ≡ true
  pub started : is_early skew moment choice.part ≡ false
  pub lasts : is_late skew moment choice.part ≡ false
  pub suite : CipherSuite
  pub session : suite_of choice.part.key.0 ≡ Some suite
  pub etype : is_number (cipher_number suite) choice.outer.etype ≡ true
  pub authenticator_version : is_number KERBEROS_VERSION choice.authenticator.authenticator_vno.0 ≡ true
  pub client : is_of_client choice.part choice.authenticator ≡ true
  pub time : Micros
  pub ctime : moment_at (seconds_of choice.authenticator.ctime.0.0) choice.authenticator.cusec.0 ≡ Some time

-- what the choice presents; it requires a reply if mutual-required is set
abbrev pub presented_of : Choice → CipherSuite → Micros → Presented
presented_of choice suite time = record {
  part = choice.part;
  suite = suite;
  authenticator = choice.authenticator;
  time = time;
  wants_reply = bit_of choice.outer.options MUTUAL_REQUIRED;
}

-- what a choice presents that is acceptable
abbrev pub presented_choice : (entry : EntryRecord) (skew moment : Micros) (choice : Choice) → IsAcceptable entry skew moment choice → Presented
presented_choice entry skew moment choice acceptable = presented_of choice acceptable.suite acceptable.time
