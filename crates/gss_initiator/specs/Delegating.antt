-- What an initiator delegates: a forwarded ticket in a KRB-CRED (RFC 4121, sections 4.1.1 and 4.1.1.1; RFC 4120, sections 3.6 and 5.8).
use Rattle.std.specs.Prelude.{◌≡◌, ◌+◌, ◌*◌, ◌++◌, [], ◌∷◌, length, bit_or, Option, None, Some, pos}
use Rattle.std.specs.Int.{cast_unsigned, w32}
use Rattle.std.specs.Option.{option_map}
use Rattle.std.proofs.Common.{ap, sym, ◌∙◌}
use Rattle.byte_streams.specs.Numbers.{le32}
use Rattle.asn1_der.specs.Tree.{der}
use Rattle.asn1_leaves.specs.declared.date.GeneralizedTime.{GeneralizedTime}
use Rattle.picky_asn1.specs.Bytes.{Bytes}
use Rattle.picky_asn1.specs.declared.wrapper.GeneralizedTimeAsn1.{GeneralizedTimeAsn1}
use Rattle.picky_asn1_der.specs.declared.wrapper.ExplicitContextTag.{ExplicitContextTag}
use Rattle.krb_constants.specs.declared.cksum_types.TheConstants.{GSS_API}
use Rattle.krb_constants.specs.declared.key_usages.TheConstants.{KRB_CRED_ENC_PART}
use Rattle.krb_constants.specs.declared.types.TheConstants.{KERBEROS_VERSION, KRB_CRED_MSG_TYPE, NT_PRINCIPAL}
use Rattle.krb_crypto.specs.Suites.{cipher_confounder_size}
use Rattle.krb_messages.specs.RandomBytes.{Random, random_part}
use Rattle.krb_messages.specs.declared.data_types.checksum.Checksum.{Checksum}
use Rattle.krb_messages.specs.declared.data_types.encrypted_data.EncryptedData.{EncryptedData}
use Rattle.krb_messages.specs.declared.data_types.ticket.TicketInner.{TicketInner}
use Rattle.krb_messages.specs.declared.enc_krb_cred_part.EncKrbCredPartInner.{EncKrbCredPartInner}
use Rattle.krb_messages.specs.declared.krb_cred.KrbCredInner.{KrbCredInner}
use Rattle.krb_messages.specs.declared.krb_cred_info.KrbCredInfo.{KrbCredInfo}
use Rattle.krb_tickets.specs.Sealing.{Seals, encryption_key, sole_seals}
use Rattle.krb_client.specs.Client.{ClientRecord, CredentialRecord}
use Rattle.krb_client.specs.Held.{principal_name}
use Rattle.gss_acceptor.specs.Delegation.{enc_krb_cred_part_tree, krb_cred_tree}
use Rattle.gss_acceptor.specs.declared.checksum.InitialChecksum.{InitialChecksum}
use Rattle.gss_acceptor.specs.declared.context_flags.TheConstants.{DELEGATION}
use Rattle.gss_acceptor.specs.declared.delegation.TheConstants.{DLG_OPT}
use Rattle.gss_initiator.specs.Checksums.{initial_octets}
use Rattle.gss_initiator.specs.declared.delegating.TheConstants.{CRED_CONFOUNDER}

-- these bindings and flags, with the flag of delegation
abbrev pub delegating : InitialChecksum → InitialChecksum
delegating initial = record { bindings = initial.bindings; flags = record { 0 = bit_or initial.flags.0 DELEGATION } }

-- After the flags the checksum has DlgOpt, which is 1, and Dlgth, in two octets each, the lowest first, and the KRB-CRED (RFC 4121, section
-- 4.1.1). Test: `An initiator that delegates`.
abbrev pub delegation_octets : Bytes → Bytes
delegation_octets deleg = le32 (DLG_OPT + 65536 * length deleg) ++ deleg

-- the checksum of these bindings and flags, with the delegation
abbrev pub delegating_checksum : InitialChecksum → Bytes → Checksum
delegating_checksum initial deleg =
    record { cksumtype = record { 0 = pos GSS_API }; checksum = record { 0 = initial_octets initial ++ delegation_octets deleg } }

-- renew-till, if there is one
abbrev pub tagged_till : Option GeneralizedTime → Option (ExplicitContextTag 7 GeneralizedTimeAsn1)
tagged_till till = option_map (λ time. record { 0 = record { 0 = time } }) till

-- What is told of the ticket: its session key, the client, its flags, times and service. It has no addresses (RFC 4120, section 5.8.1).
-- Test: `An initiator that delegates`.
unfoldable pub cred_info : ClientRecord → CredentialRecord → KrbCredInfo
cred_info client forwarded = record {
  key = record { 0 = encryption_key forwarded.suite forwarded.key };
  prealm = record { 0 = Some (record { 0 = client.realm }) };
  pname = record { 0 = Some (record { 0 = principal_name NT_PRINCIPAL client.components }) };
  flags = record { 0 = Some (record { 0 = forwarded.flags }) };
  auth_time = record { 0 = Some (record { 0 = record { 0 = forwarded.authtime } }) };
  start_time = record { 0 = Some (record { 0 = record { 0 = forwarded.starttime } }) };
  end_time = record { 0 = Some (record { 0 = record { 0 = forwarded.endtime } }) };
  renew_till = record { 0 = tagged_till forwarded.renew_till };
  srealm = record { 0 = Some (record { 0 = forwarded.realm }) };
  sname = record { 0 = Some (record { 0 = forwarded.service }) };
  caddr = record { 0 = None };
}

-- The part has this alone: no nonce, no time and no addresses, since the authenticator that holds it comes once (RFC 4120, section 3.6.1).
unfoldable pub cred_part : ClientRecord → CredentialRecord → EncKrbCredPartInner
cred_part client forwarded = record {
  ticket_info = record { 0 = cred_info client forwarded ∷ [] };
  nonce = record { 0 = None };
  timestamp = record { 0 = None };
  usec = record { 0 = None };
  s_address = record { 0 = None };
  r_address = record { 0 = None };
}

-- the encoding of the part
unfoldable pub cred_part_bytes : EncKrbCredPartInner → Bytes
cred_part_bytes part = der (enc_krb_cred_part_tree part)

-- the message with the one ticket and the sealed part (RFC 4120, section 5.8.1)
unfoldable pub krb_cred_of : TicketInner → EncryptedData → KrbCredInner
krb_cred_of ticket part = record {
  pvno = record { 0 = pos KERBEROS_VERSION };
  msg_type = record { 0 = pos KRB_CRED_MSG_TYPE };
  tickets = record { 0 = record { 0 = ticket } ∷ [] };
  enc_part = record { 0 = part };
}

-- the encoding of the message
unfoldable pub krb_cred_bytes : KrbCredInner → Bytes
krb_cred_bytes message = der (krb_cred_tree message)

-- the confounder of the part
abbrev pub cred_confounder : CredentialRecord → Random → Bytes
cred_confounder credential words = random_part CRED_CONFOUNDER (cipher_confounder_size credential.suite) words

-- The part is sealed under the session key of the ticket that authenticates the context, and under no subkey, for key usage 14 (RFC 4121,
-- section 4.1.1.1; RFC 4120, section 7.5.1). Test: `An initiator that delegates`.
abbrev pub IsSealedPart : CredentialRecord → Random → Bytes → EncryptedData → Type 0
IsSealedPart credential words plain part =
    Seals credential.suite credential.key None (cast_unsigned w32 KRB_CRED_ENC_PART) (cred_confounder credential words) plain part

-- the bytes are the KRB-CRED that hands on the client's forwarded ticket
pub record HandsOn (client : ClientRecord) (credential forwarded : CredentialRecord) (words : Random) (bytes : Bytes) : Type 0 where
  pub part : EncryptedData
  pub sealed : IsSealedPart credential words (cred_part_bytes (cred_part client forwarded)) part
  pub encoding : bytes ≡ krb_cred_bytes (krb_cred_of forwarded.ticket part)

-- there is one at most
pub sole_handed_on : (client : ClientRecord) (credential forwarded : CredentialRecord) (words : Random) (a b : Bytes)
    → HandsOn client credential forwarded words a → HandsOn client credential forwarded words b → a ≡ b
sole_handed_on client credential forwarded words a b x y =
    let same = sole_seals credential.suite credential.key None (cast_unsigned w32 KRB_CRED_ENC_PART) (cred_confounder credential words) (cred_part_bytes (cred_part client forwarded)) x.part y.part x.sealed y.sealed in
    x.encoding ∙ ap (λ part. krb_cred_bytes (krb_cred_of forwarded.ticket part)) same ∙ sym y.encoding
