-- The credential cache of a login (MIT's file credential cache format, version 0x0504).
use Rattle.std.specs.Prelude.{ℕ, ◌+◌, List, [], ◌∷◌, ◌++◌, map}
use Rattle.std.specs.Option.{option_map_or}
use Rattle.asn1_der.specs.Octets.{sequence_octet}
use Rattle.asn1_der.specs.Tagged.{tagged_tree}
use Rattle.asn1_der.specs.Tree.{der, wrapped}
use Rattle.asn1_leaves.specs.GeneralizedTime.{seconds_of}
use Rattle.picky_asn1.specs.BitString.{Bits}
use Rattle.picky_asn1.specs.Bytes.{Bytes}
use Rattle.krb_time.specs.Epoch.{since_epoch}
use Rattle.krb_constants.specs.declared.types.TheConstants.{APPLICATION, NT_PRINCIPAL, NT_SRV_INST, TICKET_TYPE}
use Rattle.krb_crypto.specs.Suites.{cipher_number}
use Rattle.krb_messages.specs.contracts.data_types.ticket.TicketInnerTagged.TheImpl as ticket_impl
use Rattle.krb_messages.specs.declared.data_types.ticket.TicketInner.{TicketInner}
use Rattle.krb_client.specs.Client.{ClientRecord, CredentialRecord}
use Rattle.krb_file_formats.specs.Caches.{Cache, Credential, Principal, Typed}
use Rattle.krb_file_formats.specs.declared.credential_caches.times.CredentialTimes.{CredentialTimes}
use Rattle.krb_file_formats.specs.Numbers.{be32_at}

-- the encoding of a ticket, [APPLICATION 1] (RFC 4120, section 5.3)
unfoldable pub ticket_bytes : TicketInner → Bytes
ticket_bytes ticket = der (wrapped (APPLICATION + TICKET_TYPE) (tagged_tree sequence_octet ticket_impl.ghosts.row_tree ticket_impl.ghosts.row_of ticket))

-- Ticket flags are a number of 32 bits, the first flag the highest. Flags that are missing are 0 (RFC 4120, section 5.2.8).
abbrev pub flags_number : Bits → ℕ
flags_number flags = be32_at 0 (flags.octets ++ 0 ∷ 0 ∷ 0 ∷ 0 ∷ [])

-- the client as a principal of a cache
abbrev pub client_principal : ClientRecord → Principal
client_principal client = record { name_type = NT_PRINCIPAL; realm = client.realm; components = client.components }

-- The service as a principal of a cache, with the name type that the client asked for.
abbrev pub service_principal : CredentialRecord → Principal
service_principal credential =
    record { name_type = NT_SRV_INST; realm = credential.realm; components = credential.service.name_string.0 }

-- the session key with its etype
abbrev pub cached_key : CredentialRecord → Typed
cached_key credential = record { kind = cipher_number credential.suite; octets = credential.key }

-- The end of a ticket's renewals, in seconds since the start of 1970. A ticket that isn't renewable has 0.
abbrev pub cached_renew_till : CredentialRecord → ℕ
cached_renew_till credential = option_map_or (λ time. since_epoch (seconds_of time)) credential.renew_till 0

-- The times in seconds since the start of 1970.
abbrev pub cached_times : CredentialRecord → CredentialTimes
cached_times credential = record {
  authtime = since_epoch (seconds_of credential.authtime);
  starttime = since_epoch (seconds_of credential.starttime);
  endtime = since_epoch (seconds_of credential.endtime);
  renew_till = cached_renew_till credential;
}

-- What a client was granted, as a cache has it.
abbrev pub cached_credential : ClientRecord → CredentialRecord → Credential
cached_credential client credential = record {
  client = client_principal client;
  server = service_principal credential;
  key = cached_key credential;
  times = cached_times credential;
  is_skey = 0;
  flags = flags_number credential.flags;
  addresses = [];
  authorization_data = [];
  ticket = ticket_bytes credential.ticket;
  second_ticket = [];
}

-- The cache of a login has the client, and exactly these credentials in their order. No test: `examples/stock_kdcs.sh` shows that stock
-- programs use it.
abbrev pub login_cache : ClientRecord → List CredentialRecord → Cache
login_cache client credentials = record {
  tags = [];
  default_principal = client_principal client;
  credentials = map (cached_credential client) credentials;
}
