-- What a granted ticket and its reply hold (RFC 4120, sections 3.1.3, 3.3.3, 5.3, 5.4.2).
use Rattle.std.specs.Prelude.{◌≡◌, ℕ, ◌+◌, Bool, List, [], ◌∷◌, Option, None, Some, true, false, pos, refl, if◌then◌else◌}
use Rattle.std.specs.Option.{option_map}
use Rattle.picky_asn1.specs.BitString.{Bits}
use Rattle.picky_asn1.specs.Bytes.{Bytes}
use Rattle.picky_asn1.specs.declared.wrapper.GeneralizedTimeAsn1.{GeneralizedTimeAsn1}
use Rattle.asn1_leaves.specs.declared.date.GeneralizedTime.{GeneralizedTime}
use Rattle.krb_crypto.specs.declared.suite.CipherSuite.{CipherSuite}
use Rattle.krb_crypto.specs.Sealing.{seed_key_of}
use Rattle.krb_crypto.specs.Suites.{cipher_seed_size}
use Rattle.krb_constants.specs.declared.padata_types.TheConstants.{PA_PK_AS_REP}
use Rattle.krb_constants.specs.declared.ticket_flags.TheConstants.{INITIAL_MASK, PRE_AUTHENT_MASK}
use Rattle.krb_constants.specs.declared.types.TheConstants.{AS_REP_MSG_TYPE, KERBEROS_VERSION, TGS_REP_MSG_TYPE}
use Rattle.krb_messages.specs.declared.data_types.encrypted_data.EncryptedData.{EncryptedData}
use Rattle.krb_messages.specs.declared.data_types.enc_ticket_part.EncTicketPartInner.{EncTicketPartInner}
use Rattle.krb_messages.specs.declared.data_types.host_address.HostAddress.{HostAddress}
use Rattle.krb_messages.specs.declared.data_types.last_req.LastReqInner.{LastReqInner}
use Rattle.krb_messages.specs.declared.data_types.ticket.TicketInner.{TicketInner}
use Rattle.krb_messages.specs.declared.data_types.transited_encoding.TransitedEncoding.{TransitedEncoding}
use Rattle.krb_messages.specs.RandomBytes.{Random, session_seed}
use Rattle.krb_messages.specs.declared.messages.kdc_rep.KdcRep.{KdcRep}
use Rattle.krb_messages.specs.declared.messages.enc_kdc_rep_part.EncKdcRepPart.{EncKdcRepPart}
use Rattle.krb_tickets.specs.Sealing.{encryption_key}
use Rattle.picky_asn1_der.specs.declared.wrapper.ExplicitContextTag.{ExplicitContextTag}
use Rattle.krb_messages.specs.declared.data_types.pa_data.PaData.{PaData}
use Rattle.krb_tickets.specs.MethodData.{pa_data_of}
use Rattle.krb_tickets.specs.Grant.{GrantRecord}
use Rattle.krb_tickets.specs.declared.flag_bits.TheConstants.{FORWARDABLE_MASK, FORWARDED_MASK, PROXIABLE_MASK, PROXY_MASK, RENEWABLE_MASK}
use Rattle.krb_tickets.specs.declared.grant.TicketFlags.{TicketFlags}
use Rattle.krb_tickets.specs.declared.parts.TheConstants.{DOMAIN_X500_COMPRESS, NO_LAST_REQUEST}
use Rattle.krb_tickets.specs.declared.reply.Exchange.{Exchange}
use Rattle.krb_tickets.specs.declared.reply.Exchange.TheVariants.{As, Tgs}

-- the session key of this suite, made of a seed among the random bytes
abbrev pub session_key_of : CipherSuite → Random → Bytes
session_key_of suite words = seed_key_of suite (session_seed (cipher_seed_size suite) words)

-- the bit where the flag is set
abbrev pub masked : Bool → ℕ → ℕ
masked set mask = if set then mask else 0x00

-- the first octet of a ticket's flags: forwardable is bit 1 of 32, forwarded bit 2, proxiable bit 3, and proxy bit 4 (RFC 4120, section
-- 5.3)
abbrev pub front_octet : TicketFlags → ℕ
front_octet flags =
    masked flags.forwardable FORWARDABLE_MASK + masked flags.forwarded FORWARDED_MASK + masked flags.proxiable PROXIABLE_MASK + masked flags.proxy PROXY_MASK

-- the second octet: renewable is bit 8, initial bit 9, and pre-authent bit 10
abbrev pub flags_octet : TicketFlags → ℕ
flags_octet flags = masked flags.renewable RENEWABLE_MASK + masked flags.initial INITIAL_MASK + masked flags.pre_authenticated PRE_AUTHENT_MASK

-- Of a ticket's flags, as 32 bits, these seven alone can be set: not may-postdate, postdated or invalid (RFC 4120, section 5.3). Test:
-- `as harmless options`, `tgs harmless options` of `five_suites.txt`.
abbrev pub flags_of : TicketFlags → Bits
flags_of flags = record { octets = front_octet flags ∷ flags_octet flags ∷ 0x00 ∷ 0x00 ∷ []; unused = 0 }

-- the flags of a ticket of which only initial and pre-authent may be set: neither forwardable nor proxiable nor renewable
abbrev pub plain_flags : Bool → Bool → TicketFlags
plain_flags initial pre_authenticated = record {
  forwardable = false;
  forwarded = false;
  proxiable = false;
  proxy = false;
  renewable = false;
  initial = initial;
  pre_authenticated = pre_authenticated;
}

-- worked: the flags of an AS exchange's ticket, and of a TGS exchange's
initial_flags : flags_of (plain_flags true true) ≡ record { octets = 0x00 ∷ 0x60 ∷ 0x00 ∷ 0x00 ∷ []; unused = 0 }
initial_flags = refl

later_flags : flags_of (plain_flags false true) ≡ record { octets = 0x00 ∷ 0x20 ∷ 0x00 ∷ 0x00 ∷ []; unused = 0 }
later_flags = refl

no_flags : flags_of (plain_flags false false) ≡ record { octets = 0x00 ∷ 0x00 ∷ 0x00 ∷ 0x00 ∷ []; unused = 0 }
no_flags = refl

-- worked: the flags of a first ticket that is forwardable, proxiable and renewable, and of a forwarded one
company_flags : flags_of (record (plain_flags true true) { forwardable = true; proxiable = true; renewable = true }) ≡ record { octets = 0x50 ∷ 0xe0 ∷ 0x00 ∷ 0x00 ∷ []; unused = 0 }
company_flags = refl

forwarded_flags : flags_of (record (plain_flags false true) { forwardable = true; forwarded = true }) ≡ record { octets = 0x60 ∷ 0x20 ∷ 0x00 ∷ 0x00 ∷ []; unused = 0 }
forwarded_flags = refl

-- the transited encoding that names no realm, as DOMAIN-X500-COMPRESS (RFC 4120, section 7.5.5)
abbrev pub no_realms : TransitedEncoding
no_realms = record { tr_type = record { 0 = pos DOMAIN_X500_COMPRESS }; contents = record { 0 = [] } }

-- one last request, of type 0, which says nothing (RFC 4120, section 5.4.2)
abbrev pub last_requests : GeneralizedTime → List LastReqInner
last_requests start = record { lr_type = record { 0 = pos NO_LAST_REQUEST }; lr_value = record { 0 = record { 0 = start } } } ∷ []

-- renew-till, as ticket and reply have it, if there is one
abbrev pub tagged_till : Option GeneralizedTime → Option (ExplicitContextTag 8 GeneralizedTimeAsn1)
tagged_till till = option_map (λ time. record { 0 = record { 0 = time } }) till

-- caddr, as ticket and reply have it, each under its own tag, if there are addresses
abbrev pub tagged_addresses : {tag : ℕ} → Option (List HostAddress) → Option (ExplicitContextTag tag (List HostAddress))
tagged_addresses addresses = option_map (λ list. record { 0 = list }) addresses

-- the ticket's part under the service's key: it has no authorization-data, and no realm transited
unfoldable pub ticket_part : GrantRecord → EncTicketPartInner
ticket_part grant = record {
  flags = record { 0 = flags_of grant.flags };
  key = record { 0 = encryption_key grant.suite grant.session };
  crealm = record { 0 = grant.realm };
  cname = record { 0 = grant.client };
  transited = record { 0 = no_realms };
  auth_time = record { 0 = record { 0 = grant.auth_time } };
  starttime = record { 0 = Some (record { 0 = record { 0 = grant.starttime } }) };
  endtime = record { 0 = record { 0 = grant.endtime } };
  renew_till = record { 0 = tagged_till grant.renew_till };
  caddr = record { 0 = tagged_addresses grant.addresses };
  authorization_data = record { 0 = None };
}

-- the reply's own part, under the reply key: it has one last request, of type 0, at the starttime
unfoldable pub reply_part : GrantRecord → EncKdcRepPart
reply_part grant = record {
  key = record { 0 = encryption_key grant.suite grant.session };
  last_req = record { 0 = last_requests grant.starttime };
  nonce = record { 0 = grant.nonce };
  key_expiration = record { 0 = None };
  flags = record { 0 = flags_of grant.flags };
  auth_time = record { 0 = record { 0 = grant.auth_time } };
  start_time = record { 0 = Some (record { 0 = record { 0 = grant.starttime } }) };
  end_time = record { 0 = record { 0 = grant.endtime } };
  renew_till = record { 0 = tagged_till grant.renew_till };
  srealm = record { 0 = grant.realm };
  sname = record { 0 = grant.service };
  caddr = record { 0 = tagged_addresses grant.addresses };
  encrypted_pa_data = record { 0 = None };
}

-- the ticket and its reply have one session key and one endtime
one_session_key : (grant : GrantRecord) → (ticket_part grant).key.0 ≡ (reply_part grant).key.0
unfolding ticket_part reply_part
one_session_key grant = refl

one_end : (grant : GrantRecord) → (ticket_part grant).endtime.0 ≡ (reply_part grant).end_time.0
unfolding ticket_part reply_part
one_end grant = refl

-- and one renew-till
one_till : (grant : GrantRecord) → (ticket_part grant).renew_till.0 ≡ (reply_part grant).renew_till.0
unfolding ticket_part reply_part
one_till grant = refl

-- the ticket, with its part as ciphertext
unfoldable pub ticket_of : GrantRecord → EncryptedData → TicketInner
ticket_of grant part = record {
  tkt_vno = record { 0 = pos KERBEROS_VERSION };
  realm = record { 0 = grant.realm };
  sname = record { 0 = grant.service };
  enc_part = record { 0 = part };
}

-- the message type of the exchange's reply (RFC 4120, section 5.10)
abbrev pub reply_type : Exchange → ℕ
reply_type As = AS_REP_MSG_TYPE
reply_type Tgs = TGS_REP_MSG_TYPE

-- the reply's padata: PA-PK-AS-REP with this data, or none (RFC 4556, section 3.2.3)
abbrev pub padata_of : Option Bytes → Option (ExplicitContextTag 2 (List PaData))
padata_of pk_as_rep = option_map (λ value. record { 0 = pa_data_of PA_PK_AS_REP value ∷ [] }) pk_as_rep

-- the reply with its ticket, its part as ciphertext, and PA-PK-AS-REP where the client authenticated by certificate
unfoldable pub kdc_reply_of : Exchange → Option Bytes → GrantRecord → TicketInner → EncryptedData → KdcRep
kdc_reply_of exchange pk_as_rep grant ticket part = record {
  pvno = record { 0 = pos KERBEROS_VERSION };
  msg_type = record { 0 = pos (reply_type exchange) };
  padata = record { 0 = padata_of pk_as_rep };
  crealm = record { 0 = grant.realm };
  cname = record { 0 = grant.client };
  ticket = record { 0 = record { 0 = ticket } };
  enc_part = record { 0 = part };
}
