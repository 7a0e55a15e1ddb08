-- What a client takes as the reply to its TGS request (RFC 4120, section 3.3.4): the first case that holds counts.
use Rattle.std.specs.Prelude.{◌≡◌, not, Err}
use Rattle.std.specs.Int.{cast_unsigned, w32}
use Rattle.krb_constants.specs.declared.types.TheConstants.{TGS_REP_MSG_TYPE}
use Rattle.picky_asn1.specs.Bytes.{Bytes}
use Rattle.krb_constants.specs.declared.key_usages.TheConstants.{TGS_REP_ENC_SESSION_KEY}
use Rattle.krb_messages.specs.declared.messages.kdc_rep.KdcRep.{KdcRep}
use Rattle.krb_messages.specs.Messages.{IsTgsRep, sole_tgs_rep}
use Rattle.decision_tables.specs.Tables.{Table, ask, done, refuse}
use Rattle.krb_client.specs.Asked.{TgsAskedRecord}
use Rattle.krb_client.specs.Client.{ClientRecord}
use Rattle.krb_client.specs.Taking.{IsTgsPart, Taken, is_of_type, sole_tgs_part, takes_message, takes_part}
use Rattle.krb_client.specs.declared.refusal.TakeRefusal.TheVariants.{NotSealed, Unreadable}

-- what the client takes of a reply that was read: its part is encrypted under the session key (RFC 4120, section 7.5.1)
abbrev pub takes_further : ClientRecord → TgsAskedRecord → KdcRep → Table Taken
takes_further client asked reply =
    -- The reply's pvno is 5, and its msg-type is KRB_TGS_REP (RFC 4120, section 5.4.2). Test: `take_tgs_reply pvno`,
    -- `take_tgs_reply msg-type` of `changed_replies.txt`.
    refuse (not (is_of_type TGS_REP_MSG_TYPE reply.pvno.0 reply.msg_type.0)) Unreadable
    -- The enc-part decrypts under the session key for key usage 8, to an EncTGSRepPart (RFC 4120, sections 3.3.4, 5.4.2). Test:
    -- `take_tgs_reply key usage` of `changed_replies.txt`.
    (ask (IsTgsPart asked.suite asked.key (cast_unsigned w32 TGS_REP_ENC_SESSION_KEY) reply.enc_part.0) (sole_tgs_part asked.suite asked.key (cast_unsigned w32 TGS_REP_ENC_SESSION_KEY) reply.enc_part.0) (done (Err NotSealed))
    (takes_part client asked.service asked.nonce reply))

-- what the client takes of a reply's bytes
unfoldable pub takes_tgs_reply : ClientRecord → TgsAskedRecord → Bytes → Table Taken
takes_tgs_reply client asked bytes = takes_message bytes (IsTgsRep bytes) (sole_tgs_rep bytes) (takes_further client asked)

-- what a client that asked this takes of the reply
abbrev pub TakesTgsReply : ClientRecord → TgsAskedRecord → Bytes → Taken → Type 0
TakesTgsReply client asked bytes taken = (takes_tgs_reply client asked bytes).gives taken

-- a reply has one outcome at most
pub one_further_taking : (client : ClientRecord) (asked : TgsAskedRecord) (bytes : Bytes) (a b : Taken) → TakesTgsReply client asked bytes a → TakesTgsReply client asked bytes b → a ≡ b
one_further_taking client asked bytes = (takes_tgs_reply client asked bytes).one
