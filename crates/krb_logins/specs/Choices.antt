-- What a client chooses that asks a service (RFC 4120, section 3.2.2).
use Rattle.std.specs.Prelude.{◌≡◌, ◌⊎◌, Bool, None, Ok, pos}
use Rattle.std.specs.Int.{cast_unsigned, w32}
use Rattle.std.specs.Option.{option_map}
use Rattle.picky_asn1.specs.Bytes.{Bytes}
use Rattle.krb_time.specs.Units.{Micros}
use Rattle.krb_constants.specs.declared.key_usages.TheConstants.{TICKET_REP}
use Rattle.krb_constants.specs.declared.types.TheConstants.{AP_REQ_MSG_TYPE, KERBEROS_VERSION}
use Rattle.krb_crypto.specs.Suites.{cipher_number}
use Rattle.krb_messages.specs.RandomBytes.{Random}
use Rattle.krb_messages.specs.declared.data_types.authenticator.AuthenticatorInner.{AuthenticatorInner}
use Rattle.krb_messages.specs.declared.data_types.enc_ticket_part.EncTicketPartInner.{EncTicketPartInner}
use Rattle.krb_messages.specs.Messages.{enc_ticket_part_tree}
use Rattle.krb_realm_accounts.specs.Names.{AreComponents, IsRealmName}
use Rattle.krb_ap_requests.specs.Presents.{Choice, SealsTo}
use Rattle.krb_client.specs.Asked.{AsAskedRecord, TgsAskedRecord}
use Rattle.krb_client.specs.ApRequest.{AsksAp}
use Rattle.krb_client.specs.AsReply.{TakesAsReply}
use Rattle.krb_client.specs.Authenticators.{options_of}
use Rattle.krb_client.specs.Client.{ClientRecord, CredentialRecord}
use Rattle.krb_client.specs.Means.{MeansRecord}
use Rattle.krb_client.specs.TgsReply.{TakesTgsReply}

-- the request's fields and those of the credential's ticket, the ticket's part, and the authenticator, each with its confounder
abbrev pub choice_by : CredentialRecord → Bool → EncTicketPartInner → Bytes → AuthenticatorInner → Bytes → Choice
choice_by credential mutual_required part part_confounder authenticator confounder = record {
  outer = record {
    pvno = pos KERBEROS_VERSION;
    msg_type = pos AP_REQ_MSG_TYPE;
    options = options_of mutual_required;
    tkt_vno = credential.ticket.tkt_vno.0;
    realm = credential.ticket.realm.0;
    service = credential.ticket.sname.0;
    part_etype = credential.ticket.enc_part.0.etype.0;
    part_kvno = option_map (λ kvno. kvno.0) credential.ticket.enc_part.0.kvno.0;
    etype = pos (cipher_number credential.suite);
    kvno = None;
  };
  part = part;
  part_confounder = part_confounder;
  authenticator = authenticator;
  confounder = confounder;
}

-- a client took it from a KDC's reply, as each credential was; from that of an AS exchange by these means
abbrev pub IsOfReply : MeansRecord → CredentialRecord → Type 0
IsOfReply means credential = (client : ClientRecord) × (reply : Bytes)
    × (((asked : AsAskedRecord) × TakesAsReply client means asked reply (Ok credential)) ⊎ ((asked : TgsAskedRecord) × TakesTgsReply client asked reply (Ok credential)))

-- a client that has a name asks by a credential, whose ticket seals a part under the service's key (RFC 4120, section 7.5.1). The
-- session key in that part is the credential's
pub record AsksService (client : ClientRecord) (means : MeansRecord) (credential : CredentialRecord) (mutual_required with_subkey : Bool) (moment : Micros) (words : Random) (bytes key : Bytes) : Type 0 where
  pub realm : IsRealmName client.realm
  pub name : AreComponents client.components
  pub of_reply : IsOfReply means credential
  pub part : EncTicketPartInner
  pub part_confounder : Bytes
  pub sealed : SealsTo {T = EncTicketPartInner} enc_ticket_part_tree credential.ticket.enc_part.0.etype.0 key (cast_unsigned w32 TICKET_REP) part_confounder part credential.ticket.enc_part.0.cipher.0
  pub session : part.key.0.key_value.0 ≡ credential.key
  pub asks : AsksAp client credential mutual_required with_subkey moment words bytes
