-- The admission of a client by a service: what the service gets from the ticket and the authenticator (RFC 4120, sections 3.2.3, 5.3).
use Rattle.std.specs.Prelude.{◌≡◌, List, Option, ℤ}
use Rattle.std.specs.Option.{option_map}
use Rattle.asn1_leaves.specs.declared.date.GeneralizedTime.{GeneralizedTime}
use Rattle.picky_asn1.specs.BitString.{Bits}
use Rattle.picky_asn1.specs.Bytes.{Bytes}
use Rattle.krb_messages.specs.declared.data_types.authenticator.AuthenticatorInner.{AuthenticatorInner}
use Rattle.krb_messages.specs.declared.data_types.authorization_data.AuthorizationDataInner.{AuthorizationDataInner}
use Rattle.krb_messages.specs.declared.data_types.checksum.Checksum.{Checksum}
use Rattle.krb_messages.specs.declared.data_types.enc_ticket_part.EncTicketPartInner.{EncTicketPartInner}
use Rattle.krb_messages.specs.declared.data_types.encryption_key.EncryptionKey.{EncryptionKey}
use Rattle.krb_messages.specs.declared.data_types.principal_name.PrincipalName.{PrincipalName}
use Rattle.krb_ap_requests.specs.ApTable.{starttime_of}
use Rattle.krb_ap_requests.specs.Presents.{Choice}
use Rattle.krb_ap_requests.specs.declared.presented.Presented.{Presented}

-- What an admission holds. The ticket gives the client's realm and name, the session key, authtime, starttime, endtime, flags and
-- authorization data.
-- The authenticator gives the subkey, checksum and sequence number, if it has them (RFC 4120, section 5.5.1). The AP-REP is there
-- if the client asked for one.
pub record AdmissionRecord : Type 0 where
  pub realm : Bytes
  pub client : PrincipalName
  pub session : EncryptionKey
  pub authtime : GeneralizedTime
  pub starttime : GeneralizedTime
  pub endtime : GeneralizedTime
  pub flags : Bits
  pub authorization_data : Option (List AuthorizationDataInner)
  pub subkey : Option EncryptionKey
  pub checksum : Option Checksum
  pub seq_number : Option ℤ
  pub reply : Option Bytes

-- the ticket's authorization data, if it has any (RFC 4120, section 5.2.6)
abbrev pub authorization_data_of : EncTicketPartInner → Option (List AuthorizationDataInner)
authorization_data_of part = option_map (λ tagged. tagged.0) part.authorization_data.0

-- the authenticator's subkey, if it has one (RFC 4120, section 5.5.1)
abbrev pub subkey_of : AuthenticatorInner → Option EncryptionKey
subkey_of authenticator = option_map (λ tagged. tagged.0) authenticator.subkey.0

-- the authenticator's checksum, if it has one (RFC 4120, section 5.5.1)
abbrev pub checksum_of : AuthenticatorInner → Option Checksum
checksum_of authenticator = option_map (λ tagged. tagged.0) authenticator.cksum.0

-- the authenticator's sequence number, if it has one (RFC 4120, section 5.5.1)
abbrev pub seq_number_of : AuthenticatorInner → Option ℤ
seq_number_of authenticator = option_map (λ tagged. tagged.0) authenticator.seq_number.0

-- What a service gets from a presented AP-REQ, with the bytes of the AP-REP, if there is one (RFC 4120, section 3.2.4).
abbrev pub admission_of : Presented → Option Bytes → AdmissionRecord
admission_of presented reply = record {
  realm = presented.part.crealm.0;
  client = presented.part.cname.0;
  session = presented.part.key.0;
  authtime = presented.part.auth_time.0.0;
  starttime = starttime_of presented.part;
  endtime = presented.part.endtime.0.0;
  flags = presented.part.flags.0;
  authorization_data = authorization_data_of presented.part;
  subkey = subkey_of presented.authenticator;
  checksum = checksum_of presented.authenticator;
  seq_number = seq_number_of presented.authenticator;
  reply = reply;
}

-- the admission has client, keys, times, flags, authorization data, checksum and sequence number as they were chosen
pub record TellsOf (choice : Choice) (admission : AdmissionRecord) : Type 0 where
  pub realm : admission.realm ≡ choice.part.crealm.0
  pub client : admission.client ≡ choice.part.cname.0
  pub session : admission.session ≡ choice.part.key.0
  pub authtime : admission.authtime ≡ choice.part.auth_time.0.0
  pub starttime : admission.starttime ≡ starttime_of choice.part
  pub endtime : admission.endtime ≡ choice.part.endtime.0.0
  pub flags : admission.flags ≡ choice.part.flags.0
  pub authorization_data : admission.authorization_data ≡ authorization_data_of choice.part
  pub subkey : admission.subkey ≡ subkey_of choice.authenticator
  pub checksum : admission.checksum ≡ checksum_of choice.authenticator
  pub seq_number : admission.seq_number ≡ seq_number_of choice.authenticator
