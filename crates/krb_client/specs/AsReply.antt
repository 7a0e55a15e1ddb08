-- What a client takes as the reply to its AS request (RFC 4120, section 3.1.5): the first case that holds counts.
use Rattle.std.specs.Prelude.{◌≡◌, not, Err}
use Rattle.std.specs.Int.{cast_unsigned, w32}
use Rattle.krb_constants.specs.declared.types.TheConstants.{AS_REP_MSG_TYPE}
use Rattle.krb_constants.specs.declared.key_usages.TheConstants.{AS_REP_ENC}
use Rattle.krb_crypto.specs.Keys.{KeyRecord}
use Rattle.krb_crypto.specs.declared.suite.CipherSuite.{CipherSuite}
use Rattle.picky_asn1.specs.Bytes.{Bytes}
use Rattle.krb_messages.specs.declared.data_types.encrypted_data.EncryptedData.{EncryptedData}
use Rattle.krb_messages.specs.declared.messages.enc_kdc_rep_part.EncKdcRepPart.{EncKdcRepPart}
use Rattle.krb_messages.specs.declared.messages.kdc_rep.KdcRep.{KdcRep}
use Rattle.krb_messages.specs.Messages.{IsAsRep, enc_as_rep_part-injective, enc_as_rep_part_tree, sole_as_rep}
use Rattle.krb_tickets.specs.SealedData.{IsSealedIn, sole_sealed}
use Rattle.decision_tables.specs.One.{IsSole}
use Rattle.decision_tables.specs.Tables.{Table, and_then, ask, done, refuse}
use Rattle.krb_client.specs.Asked.{AsAskedRecord}
use Rattle.krb_client.specs.Client.{ClientRecord}
use Rattle.krb_client.specs.Means.{MeansRecord}
use Rattle.krb_client.specs.Taking.{IsTgsPart, Taken, is_of_type, sole_tgs_part, takes_message, takes_part}
use Rattle.krb_client.specs.declared.refusal.TakeRefusal.TheVariants.{NotSealed, Unreadable}

-- the data is an EncASRepPart, encrypted under the key (RFC 4120, sections 5.4.2, 7.5.1)
unfoldable pub IsAsPart : CipherSuite → Bytes → EncryptedData → EncKdcRepPart → Type 0
IsAsPart suite key sealed part = IsSealedIn {T = EncKdcRepPart} enc_as_rep_part_tree suite key (cast_unsigned w32 AS_REP_ENC) sealed part

pub sole_as_part : (suite : CipherSuite) (key : Bytes) (sealed : EncryptedData) → IsSole (IsAsPart suite key sealed)
unfolding IsAsPart
sole_as_part suite key sealed = sole_sealed enc_as_rep_part_tree enc_as_rep_part-injective suite key (cast_unsigned w32 AS_REP_ENC) sealed

-- what the client takes of a reply with its key: the part may have the tag of TGS replies too (RFC 4120, section 5.4.2)
-- Not judged: the kvno of the reply's enc-part (RFC 4120, section 5.2.9). Test: `take_as_reply key number` of `clients.txt`.
abbrev pub takes_sealed : ClientRecord → KeyRecord → AsAskedRecord → KdcRep → Table Taken
takes_sealed client key asked reply =
    -- The enc-part decrypts under the reply key for key usage 3 (RFC 4120, sections 3.1.5, 5.4.2). Test: `e@R, usage 8`,
    -- `a@R, sealed under the account's key` of `pkinit_steps.txt`.
    -- Behind the part's encoding stands nothing but the padding of triple DES (RFC 4120, section 5.4.2; RFC 3961, section 6.3). Test:
    -- `take_as_reply 00 behind` of `clients.txt`.
    ask (IsAsPart key.suite key.bytes reply.enc_part.0) (sole_as_part key.suite key.bytes reply.enc_part.0)
    -- The decrypted part is an EncASRepPart, or where it is none an EncTGSRepPart (RFC 4120, section 5.4.2). Test: `exchange_tag` of
    -- `logins.txt`.
    (ask (IsTgsPart key.suite key.bytes (cast_unsigned w32 AS_REP_ENC) reply.enc_part.0) (sole_tgs_part key.suite key.bytes (cast_unsigned w32 AS_REP_ENC) reply.enc_part.0) (done (Err NotSealed)) (takes_part client asked.service asked.nonce reply))
    (takes_part client asked.service asked.nonce reply)

-- what the client takes of a reply that was read, by its means
abbrev pub takes_reply : ClientRecord → MeansRecord → AsAskedRecord → KdcRep → Table Taken
takes_reply client means asked reply =
    -- The reply's pvno is 5, and its msg-type is KRB_AS_REP (RFC 4120, section 5.4.2). Test: `take_as_reply pvno`, `take_as_reply msg-type`
    -- of `changed_replies.txt`.
    refuse (not (is_of_type AS_REP_MSG_TYPE reply.pvno.0 reply.msg_type.0)) Unreadable
    (and_then (means.reply_key client asked reply) (λ key.
    takes_sealed client key asked reply))

-- what the client takes of a reply's bytes
unfoldable pub takes_as_reply : ClientRecord → MeansRecord → AsAskedRecord → Bytes → Table Taken
takes_as_reply client means asked bytes = takes_message bytes (IsAsRep bytes) (sole_as_rep bytes) (takes_reply client means asked)

-- what a client that asked this takes of the reply
abbrev pub TakesAsReply : ClientRecord → MeansRecord → AsAskedRecord → Bytes → Taken → Type 0
TakesAsReply client means asked bytes taken = (takes_as_reply client means asked bytes).gives taken

-- a reply has one outcome at most
pub one_taking : (client : ClientRecord) (means : MeansRecord) (asked : AsAskedRecord) (bytes : Bytes) (a b : Taken)
    → TakesAsReply client means asked bytes a → TakesAsReply client means asked bytes b → a ≡ b
one_taking client means asked bytes = (takes_as_reply client means asked bytes).one
