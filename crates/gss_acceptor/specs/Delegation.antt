-- What an initiator delegates: the KRB-CRED in its authenticator's checksum (RFC 4121, sections 4.1.1 and 4.1.1.1; RFC 4120, sections 3.6 and
-- 5.8).
use Rattle.std.specs.Prelude.{◌+◌, ◌%◌, ◌/◌, ◌==◌, ◌&&◌, Bool, true, false, not, nat_lt, length, take, drop, Option, None, Some, Result, Ok, Err, if◌then◌else◌}
use Rattle.std.specs.Int.{cast_unsigned, w32}
use Rattle.std.proofs.Common.{sym, ◌∙◌}
use Rattle.picky_asn1.specs.Bytes.{Bytes}
use Rattle.picky_asn1.specs.Numbers.{is_number}
use Rattle.byte_streams.specs.Numbers.{le32_at}
use Rattle.asn1_der.specs.Octets.{sequence_octet}
use Rattle.asn1_der.specs.Tree.{Tree, Writes, wrapped}
use Rattle.asn1_der.specs.Tagged.{tagged_tree}
use Rattle.asn1_der.proofs.Spelling.{IsInjective, wrapped-injective}
use Rattle.asn1_der.proofs.Tagged.{tagged-injective}
use Rattle.decision_tables.specs.One.{IsSole}
use Rattle.decision_tables.specs.Tables.{Table, and_then, ask, done, need, refuse}
use Rattle.krb_constants.specs.declared.key_usages.TheConstants.{KRB_CRED_ENC_PART}
use Rattle.krb_constants.specs.declared.types.TheConstants.{APPLICATION, ENC_KRB_CRED_PART_TYPE, KERBEROS_VERSION, KRB_CRED_MSG_TYPE}
use Rattle.krb_crypto.specs.Keys.{KeyRecord}
use Rattle.krb_messages.specs.declared.data_types.checksum.Checksum.{Checksum}
use Rattle.krb_messages.specs.declared.data_types.encrypted_data.EncryptedData.{EncryptedData}
use Rattle.krb_messages.specs.declared.data_types.encryption_key.EncryptionKey.{EncryptionKey}
use Rattle.krb_messages.specs.declared.enc_krb_cred_part.EncKrbCredPartInner.{EncKrbCredPartInner}
use Rattle.krb_messages.specs.declared.krb_cred.KrbCredInner.{KrbCredInner}
use Rattle.krb_messages.specs.contracts.enc_krb_cred_part.EncKrbCredPartInnerTagged.TheImpl as enc_krb_cred_part_impl
use Rattle.krb_messages.specs.contracts.krb_cred.KrbCredInnerTagged.TheImpl as krb_cred_impl
use Rattle.krb_tickets.specs.Keys.{key_in}
use Rattle.krb_tickets.specs.SealedData.{IsSealedIn, sole_sealed}
use Rattle.gss_contexts.specs.Tokens.{is_set}
use Rattle.gss_acceptor.specs.declared.checksum.ContextFlags.{ContextFlags}
use Rattle.gss_acceptor.specs.declared.context_flags.TheConstants.{DELEGATION}
use Rattle.gss_acceptor.specs.declared.delegation.TheConstants.{DLG_OPT, FRONT, PLACE}
use Rattle.gss_acceptor.specs.declared.delegation.Delegated.{Delegated}
use Rattle.gss_acceptor.specs.declared.refusal.AcceptRefusal.{AcceptRefusal}
use Rattle.gss_acceptor.specs.declared.refusal.AcceptRefusal.TheVariants.{BadDelegation}

-- Deleg: after the flags there are DlgOpt, which is 1, and Dlgth, in two octets each, the lowest first, and then so many octets (RFC 4121,
-- section 4.1.1). Test: `Delegations that aren't any.`.
-- Not judged: the octets after Deleg, which are extensions (RFC 4121, section 4.1.1). Test: `A delegation with extensions after it.`.
abbrev pub deleg_in : Bytes → Option Bytes
deleg_in octets =
    if nat_lt (length octets) FRONT then None
    else (if not (le32_at PLACE octets % 65536 == DLG_OPT) then None
    else (if nat_lt (length octets) (FRONT + le32_at PLACE octets / 65536) then None
    else Some (take (le32_at PLACE octets / 65536) (drop FRONT octets))))

-- a KRB-CRED, [APPLICATION 22] (RFC 4120, section 5.8.1)
abbrev pub krb_cred_inner_tree : KrbCredInner → Tree
krb_cred_inner_tree = tagged_tree sequence_octet krb_cred_impl.ghosts.row_tree krb_cred_impl.ghosts.row_of

krb_cred_inner-injective : IsInjective krb_cred_inner_tree
krb_cred_inner-injective = tagged-injective 48 krb_cred_impl.ghosts.row_tree krb_cred_impl.ghosts.row_laws krb_cred_impl.ghosts.row_of krb_cred_impl.ghosts.one_row

abbrev pub krb_cred_tree : KrbCredInner → Tree
krb_cred_tree message = wrapped (APPLICATION + KRB_CRED_MSG_TYPE) (krb_cred_inner_tree message)

-- the bytes are the one encoding of the KRB-CRED
abbrev pub IsKrbCred : Bytes → KrbCredInner → Type 0
IsKrbCred bytes message = Writes krb_cred_tree message bytes

pub sole_krb_cred : (bytes : Bytes) → IsSole (IsKrbCred bytes)
sole_krb_cred bytes v w p q = wrapped-injective (APPLICATION + KRB_CRED_MSG_TYPE) krb_cred_inner_tree krb_cred_inner-injective v w p.0 q.0 (sym p.1 ∙ q.1)

-- its part, [APPLICATION 29] (RFC 4120, section 5.8.1)
abbrev pub enc_krb_cred_part_inner_tree : EncKrbCredPartInner → Tree
enc_krb_cred_part_inner_tree = tagged_tree sequence_octet enc_krb_cred_part_impl.ghosts.row_tree enc_krb_cred_part_impl.ghosts.row_of

enc_krb_cred_part_inner-injective : IsInjective enc_krb_cred_part_inner_tree
enc_krb_cred_part_inner-injective =
    tagged-injective 48 enc_krb_cred_part_impl.ghosts.row_tree enc_krb_cred_part_impl.ghosts.row_laws enc_krb_cred_part_impl.ghosts.row_of enc_krb_cred_part_impl.ghosts.one_row

abbrev pub enc_krb_cred_part_tree : EncKrbCredPartInner → Tree
enc_krb_cred_part_tree part = wrapped (APPLICATION + ENC_KRB_CRED_PART_TYPE) (enc_krb_cred_part_inner_tree part)

pub enc_krb_cred_part-injective : IsInjective enc_krb_cred_part_tree
enc_krb_cred_part-injective = wrapped-injective (APPLICATION + ENC_KRB_CRED_PART_TYPE) enc_krb_cred_part_inner_tree enc_krb_cred_part_inner-injective

-- the enc-part is encrypted under the key, for key usage 14, and says that it is of the key's suite (RFC 4120, sections 5.8.1 and 7.5.1)
abbrev pub IsCredPart : KeyRecord → EncryptedData → EncKrbCredPartInner → Type 0
IsCredPart key encrypted part =
    IsSealedIn {T = EncKrbCredPartInner} enc_krb_cred_part_tree key.suite key.bytes (cast_unsigned w32 KRB_CRED_ENC_PART) encrypted part

pub sole_cred_part : (key : KeyRecord) (encrypted : EncryptedData) → IsSole (IsCredPart key encrypted)
sole_cred_part key encrypted =
    sole_sealed enc_krb_cred_part_tree enc_krb_cred_part-injective key.suite key.bytes (cast_unsigned w32 KRB_CRED_ENC_PART) encrypted

-- the pvno is 5, and the msg-type KRB_CRED
abbrev pub is_krb_cred : KrbCredInner → Bool
is_krb_cred message = is_number KERBEROS_VERSION message.pvno.0 && is_number KRB_CRED_MSG_TYPE message.msg_type.0

-- the tickets of the message, and what its part tells of them
abbrev pub delegated_of : KrbCredInner → EncKrbCredPartInner → Delegated
delegated_of message part = record { tickets = message.tickets.0; infos = part.ticket_info.0 }

-- there is a ticket, and as much is told as there are tickets
abbrev pub is_each_told : Delegated → Bool
is_each_told delegated = nat_lt 0 (length delegated.tickets) && (length delegated.tickets == length delegated.infos)

-- what is handed out
-- Not judged: nonce, timestamp, usec and addresses of the part, since the authenticator that holds it came once (RFC 4120, section 3.6.2).
-- Test: `A delegation.`.
abbrev pub delegated_by : KrbCredInner → EncKrbCredPartInner → Result Delegated AcceptRefusal
-- There is a ticket, and a KrbCredInfo of each (RFC 4120, section 5.8.1). Test: `Delegations that don't open.`.
delegated_by message part = if is_each_told (delegated_of message part) then Ok (delegated_of message part) else Err BadDelegation

-- the part of a KRB-CRED
abbrev pub part_in : KeyRecord → KrbCredInner → Table (Result EncKrbCredPartInner AcceptRefusal)
part_in key message =
    -- The pvno is 5, and the msg-type KRB_CRED (RFC 4120, section 3.6.2). Test: `Delegations that don't open.`.
    refuse (not (is_krb_cred message)) BadDelegation
    -- The enc-part decrypts under the session key, to an EncKrbCredPart (RFC 4120, section 3.6.2). Test: `Delegations that don't open.`.
    (ask (IsCredPart key message.enc_part.0) (sole_cred_part key message.enc_part.0) (done (Err BadDelegation)) (λ part. done (Ok part)))

-- what a KRB-CRED hands on
abbrev pub opened_cred : KeyRecord → KrbCredInner → Table (Result Delegated AcceptRefusal)
opened_cred key message = and_then (part_in key message) (λ part. done (delegated_by message part))

-- what bytes hand on, if they are a KRB-CRED
abbrev pub cred_in : KeyRecord → Bytes → Table (Result Delegated AcceptRefusal)
cred_in key deleg =
    -- Deleg is the DER encoding of a KRB-CRED (RFC 4120, section 5.8.1). Test: `Delegations that aren't any.`.
    ask (IsKrbCred deleg) (sole_krb_cred deleg) (done (Err BadDelegation)) (λ message. opened_cred key message)

-- what a checksum's octets delegate. The KRB-CRED is under the session key of the ticket that authenticates the context, and under no
-- subkey (RFC 4121, section 4.1.1.1)
abbrev pub delegated_in : EncryptionKey → Bytes → Table (Result Delegated AcceptRefusal)
delegated_in session octets =
    -- Where the flag of delegation is set, the checksum has DlgOpt, Dlgth and Deleg (RFC 4121, section 4.1.1.1). Test: `Delegations that
    -- aren't any.`.
    need (deleg_in octets) BadDelegation (λ deleg.
    -- The type and length of the session key are a suite's (RFC 3961, section 3). No test: it opened the authenticator before.
    need (key_in session) BadDelegation (λ key. cred_in key deleg))

-- what an authenticator's checksum delegates
abbrev pub summed : EncryptionKey → Option Checksum → Table (Result Delegated AcceptRefusal)
summed session checksum =
    -- The authenticator has a checksum (RFC 4121, section 4.1.1). No test: one without is refused before, as `NoChecksum`.
    need checksum BadDelegation (λ it. delegated_in session it.checksum.0)

-- what is delegated, where the flag is set
abbrev pub delegation_by : Bool → EncryptionKey → Option Checksum → Table (Result (Option Delegated) AcceptRefusal)
delegation_by false session checksum = done (Ok None)
delegation_by true session checksum = and_then (summed session checksum) (λ delegated. done (Ok (Some delegated)))

-- What an initiator delegates. Without flag 1 that is nothing, whatever the octets after the flags are (RFC 4121, section 4.1.1.1).
-- Test: `Octets after the flags, which aren't read.`, `A delegation.`.
unfoldable pub delegation : ContextFlags → EncryptionKey → Option Checksum → Table (Result (Option Delegated) AcceptRefusal)
delegation flags session checksum = delegation_by (is_set flags.0 DELEGATION) session checksum
