-- AP requests (RFC 4120, section 5.5.1), to a service and, inside a TGS request, to a KDC: a ticket, and an authenticator under
-- the session's key.
use Rattle.std.specs.Prelude.{◌≡◌, ℕ, ◌%◌, Bool, [], ◌∷◌, Option, None, pos, if◌then◌else◌}
use Rattle.std.specs.Option.{option_map}
use Rattle.std.proofs.Common.{ap, subst, sym, ◌∙◌}
use Rattle.krb_time.specs.Units.{Micros}
use Rattle.picky_asn1.specs.BitString.{Bits}
use Rattle.picky_asn1.specs.Bytes.{Bytes}
use Rattle.asn1_leaves.specs.declared.date.GeneralizedTime.{GeneralizedTime}
use Rattle.krb_constants.specs.declared.ap_options.TheConstants.{MUTUAL_REQUIRED_MASK}
use Rattle.krb_constants.specs.declared.types.TheConstants.{AP_REQ_MSG_TYPE, KERBEROS_VERSION, NT_PRINCIPAL}
use Rattle.krb_messages.specs.declared.data_types.authenticator.AuthenticatorInner.{AuthenticatorInner}
use Rattle.krb_messages.specs.declared.data_types.checksum.Checksum.{Checksum}
use Rattle.krb_messages.specs.declared.data_types.encrypted_data.EncryptedData.{EncryptedData}
use Rattle.krb_messages.specs.declared.data_types.encryption_key.EncryptionKey.{EncryptionKey}
use Rattle.krb_messages.specs.declared.data_types.ticket.TicketInner.{TicketInner}
use Rattle.krb_messages.specs.declared.messages.ap_req.ApReqInner.{ApReqInner}
use Rattle.krb_client.specs.Client.{ClientRecord, CredentialRecord}
use Rattle.krb_client.specs.declared.authenticator.AuthenticatorParts.{AuthenticatorParts}
use Rattle.krb_client.specs.Held.{principal_name}
use Rattle.krb_time.specs.SecondOf.{IsSecondOf, sole_second}
use Rattle.krb_client.specs.Messages.{ap_request_bytes, authenticator_bytes}
use Rattle.krb_tickets.specs.Sealing.{Seals, sole_seals}

-- the client's part of an authenticator, and the microseconds of its time
abbrev pub authenticator_parts_of : ClientRecord → Micros → AuthenticatorParts
authenticator_parts_of client microsecond = record {
  version = pos KERBEROS_VERSION;
  realm = client.realm;
  name = principal_name NT_PRINCIPAL client.components;
  microsecond = pos microsecond;
}

-- the authenticator with these parts, its time's second, and the checksum and the subkey, where there is one
abbrev pub authenticator_with : AuthenticatorParts → GeneralizedTime → Option Checksum → Option EncryptionKey → AuthenticatorInner
authenticator_with parts second checksum subkey = record {
  authenticator_vno = record { 0 = parts.version };
  crealm = record { 0 = parts.realm };
  cname = record { 0 = parts.name };
  cksum = record { 0 = option_map (λ sum. record { 0 = sum }) checksum };
  cusec = record { 0 = parts.microsecond };
  ctime = record { 0 = record { 0 = second } };
  subkey = record { 0 = option_map (λ key. record { 0 = key }) subkey };
  seq_number = record { 0 = None };
  authorization_data = record { 0 = None };
}

-- the client's authenticator of the moment
pub record IsAuthenticatorOf (client : ClientRecord) (moment : Micros) (checksum : Option Checksum) (subkey : Option EncryptionKey) (authenticator : AuthenticatorInner) : Type 0 where
  pub second : GeneralizedTime
  pub of_moment : IsSecondOf moment second
  pub is_made : authenticator ≡ authenticator_with (authenticator_parts_of client (moment % 1000000)) second checksum subkey

pub sole_authenticator_of : (client : ClientRecord) (moment : Micros) (checksum : Option Checksum) (subkey : Option EncryptionKey) (a b : AuthenticatorInner)
    → IsAuthenticatorOf client moment checksum subkey a → IsAuthenticatorOf client moment checksum subkey b → a ≡ b
sole_authenticator_of client moment checksum subkey a b x y =
    x.is_made ∙ ap (λ second. authenticator_with (authenticator_parts_of client (moment % 1000000)) second checksum subkey) (sole_second moment x.second y.second x.of_moment y.of_moment) ∙ sym y.is_made

-- the option mutual-required where the service is to answer (RFC 4120, section 5.5.1)
abbrev pub options_of : Bool → Bits
options_of mutual_required = record { octets = (if mutual_required then MUTUAL_REQUIRED_MASK else 0) ∷ 0 ∷ 0 ∷ 0 ∷ []; unused = 0 }

-- the request with its sealed authenticator
abbrev pub ap_request_of : Bool → TicketInner → EncryptedData → ApReqInner
ap_request_of mutual_required ticket authenticator = record {
  pvno = record { 0 = pos KERBEROS_VERSION };
  msg_type = record { 0 = pos AP_REQ_MSG_TYPE };
  ap_options = record { 0 = options_of mutual_required };
  ticket = record { 0 = record { 0 = ticket } };
  authenticator = record { 0 = authenticator };
}

-- the bytes are the request with the credential's ticket and the authenticator, which is sealed under the credential's key,
-- for the usage, behind the confounder
pub record IsApRequest (credential : CredentialRecord) (usage : ℕ) (mutual_required : Bool) (authenticator : AuthenticatorInner) (confounder bytes : Bytes) : Type 0 where
  pub part : EncryptedData
  pub sealed : Seals credential.suite credential.key None usage confounder (authenticator_bytes authenticator) part
  pub encoding : bytes ≡ ap_request_bytes (ap_request_of mutual_required credential.ticket part)

pub sole_presented : (credential : CredentialRecord) (usage : ℕ) (mutual_required : Bool) (confounder : Bytes) (p q : AuthenticatorInner) (a b : Bytes)
    → p ≡ q → IsApRequest credential usage mutual_required p confounder a → IsApRequest credential usage mutual_required q confounder b → a ≡ b
sole_presented credential usage mutual_required confounder p q a b same x y =
    let first = subst (λ authenticator. Seals credential.suite credential.key None usage confounder (authenticator_bytes authenticator) x.part) same x.sealed in
    x.encoding
    ∙ ap (λ part. ap_request_bytes (ap_request_of mutual_required credential.ticket part))
    (sole_seals credential.suite credential.key None usage confounder (authenticator_bytes q) x.part y.part first y.sealed)
    ∙ sym y.encoding
