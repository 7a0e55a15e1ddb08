-- What a granted change is, in the words of the exchange (RFC 3244, section 2).
use Rattle.std.specs.Prelude.{◌≡◌, true, Some}
use Rattle.krb_constants.specs.declared.ticket_flags.TheConstants.{INITIAL}
use Rattle.krb_crypto.specs.declared.suite.CipherSuite.{CipherSuite}
use Rattle.krb_messages.specs.Names.{is_same_realm}
use Rattle.krb_service.specs.Admission.{AdmissionRecord}
use Rattle.krb_tickets.specs.Keys.{suite_of}
use Rattle.krb_password_changes.specs.declared.messages.version.Version.{Version}
use Rattle.microsoft_messages.specs.declared.change_passwd_data.ChangePasswdData.{ChangePasswdData}
use Rattle.microsoft_messages.specs.declared.enc_krb_priv_part.EncKrbPrivPartInner.{EncKrbPrivPartInner}
use Rattle.microsoft_messages.specs.declared.krb_priv.KrbPrivInner.{KrbPrivInner}
use Rattle.picky_asn1.specs.BitString.{bit_of}
use Rattle.picky_asn1.specs.Bytes.{Bytes}
use Rattle.krb_password_changes.specs.ChangeTable.{RulesRecord}
use Rattle.krb_password_changes.specs.declared.judge.Granted.{Granted}
use Rattle.krb_password_changes.specs.Changes.{IsChange, TargetRecord, client_of, may_set, target_of}
use Rattle.krb_password_changes.specs.Privates.{IsKrbPriv, IsPrivatePart, is_first, private_key}

-- the principal that gets the password
abbrev pub target_in : Granted → TargetRecord
target_in granted = record { realm = granted.realm; name = granted.name }

-- The octets are a KRB-PRIV that opens under the key of the request to a part with the authenticator's seq-number. The part asks for a change
-- to the granted password. The ticket is initial. The target is the client, or the client is an administrator, and the target is of the realm.
pub record IsAskedFor (rules : RulesRecord) (version : Version) (admission : AdmissionRecord) (octets : Bytes) (granted : Granted) : Type 0 where
  pub message : KrbPrivInner
  pub suite : CipherSuite
  pub part : EncKrbPrivPartInner
  pub change : ChangePasswdData
  pub is_message : IsKrbPriv octets message
  pub has_key : suite_of (private_key admission) ≡ Some suite
  pub opens : IsPrivatePart suite (private_key admission).key_value.0 message.enc_part.0 part
  pub is_numbered : is_first admission part ≡ true
  pub asks : IsChange version part.user_data.0 change
  pub password : granted.password ≡ change.new_passwd.0
  pub target : target_of admission change ≡ Some (target_in granted)
  pub is_initial : bit_of admission.flags INITIAL ≡ true
  pub is_allowed : may_set rules.realm rules.admins (client_of admission) (target_in granted) ≡ true
  pub is_of_realm : is_same_realm granted.realm rules.realm ≡ true
