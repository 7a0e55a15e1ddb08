-- What a client takes as a service's reply (RFC 4120, section 3.2.5): the first case that holds counts.
use Rattle.std.specs.Prelude.{◌≡◌, ◌/◌, ◌%◌, ◌==◌, Bool, not, ◌&&◌, Result, Ok, Err}
use Rattle.std.specs.Int.{cast_unsigned, w32}
use Rattle.krb_constants.specs.declared.types.TheConstants.{AP_REP_MSG_TYPE}
use Rattle.krb_time.specs.Units.{Micros}
use Rattle.krb_constants.specs.declared.key_usages.TheConstants.{AP_REP_ENC}
use Rattle.krb_messages.specs.declared.data_types.enc_ap_rep_part.EncApRepPartInner.{EncApRepPartInner}
use Rattle.krb_messages.specs.declared.data_types.encrypted_data.EncryptedData.{EncryptedData}
use Rattle.krb_messages.specs.declared.messages.ap_rep.ApRepInner.{ApRepInner}
use Rattle.krb_messages.specs.Messages.{IsApRep, enc_ap_rep_part-injective, enc_ap_rep_part_tree, sole_ap_rep}
use Rattle.krb_tickets.specs.SealedData.{IsSealedIn, sole_sealed}
use Rattle.asn1_leaves.specs.GeneralizedTime.{seconds_of}
use Rattle.picky_asn1.specs.Numbers.{is_number}
use Rattle.picky_asn1.specs.Bytes.{Bytes}
use Rattle.decision_tables.specs.One.{IsSole}
use Rattle.decision_tables.specs.Tables.{Table, ask, done, refuse}
use Rattle.krb_client.specs.Asked.{ApAskedRecord}
use Rattle.krb_client.specs.Taking.{is_of_type, takes_message}
use Rattle.krb_client.specs.declared.refusal.TakeRefusal.{TakeRefusal}
use Rattle.krb_client.specs.declared.refusal.TakeRefusal.TheVariants.{NotAsked, NotSealed, Unreadable}

-- the part of the reply, encrypted under the session key (RFC 4120, section 7.5.1)
unfoldable pub IsApPart : ApAskedRecord → EncryptedData → EncApRepPartInner → Type 0
IsApPart asked sealed part = IsSealedIn {T = EncApRepPartInner} enc_ap_rep_part_tree asked.suite asked.key (cast_unsigned w32 AP_REP_ENC) sealed part

pub sole_ap_part : (asked : ApAskedRecord) (sealed : EncryptedData) → IsSole (IsApPart asked sealed)
unfolding IsApPart
sole_ap_part asked sealed = sole_sealed enc_ap_rep_part_tree enc_ap_rep_part-injective asked.suite asked.key (cast_unsigned w32 AP_REP_ENC) sealed

-- the part has the second of the moment, and its microseconds
abbrev pub tells : Micros → EncApRepPartInner → Bool
tells moment part = (seconds_of part.ctime.0.0 == moment / 1000000) && is_number (moment % 1000000) part.cusec.0

-- that the service could open the ticket, or why the client doesn't take it
abbrev pub Shown : Type 0
Shown = Result (Unit {0}) TakeRefusal

-- what the client takes of the decrypted part: it must have the authenticator's time
-- Not judged: a subkey and a seq-number of the AP-REP (RFC 4120, section 5.5.2). No test: the contract alone covers it.
abbrev pub takes_time : ApAskedRecord → EncApRepPartInner → Table Shown
takes_time asked part =
    -- The ctime and cusec of EncAPRepPart are the authenticator's (RFC 4120, section 3.2.5). Test: `take_ap_reply ctime`,
    -- `take_ap_reply cusec` of `changed_replies.txt`.
    refuse (not (tells asked.time part)) NotAsked
    (done (Ok tt))

-- what the client takes of a reply that was read
abbrev pub takes_answer : ApAskedRecord → ApRepInner → Table Shown
takes_answer asked reply =
    -- The reply's pvno is 5, and its msg-type is KRB_AP_REP (RFC 4120, section 5.5.2). Test: `take_ap_reply pvno`, `take_ap_reply msg-type`
    -- of `changed_replies.txt`.
    refuse (not (is_of_type AP_REP_MSG_TYPE reply.pvno.0 reply.msg_type.0)) Unreadable
    -- The enc-part of an AP-REP decrypts under the session key for key usage 12 (RFC 4120, sections 3.2.5 and 5.5.2). Test:
    -- `take_ap_reply key usage` of `changed_replies.txt`.
    (ask (IsApPart asked reply.enc_part.0) (sole_ap_part asked reply.enc_part.0) (done (Err NotSealed))
    (takes_time asked))

-- what the client takes of a reply's bytes
unfoldable pub takes_ap_reply : ApAskedRecord → Bytes → Table Shown
takes_ap_reply asked bytes = takes_message bytes (IsApRep bytes) (sole_ap_rep bytes) (takes_answer asked)

-- what a client that asked this takes of the reply
abbrev pub TakesApReply : ApAskedRecord → Bytes → Shown → Type 0
TakesApReply asked bytes taken = (takes_ap_reply asked bytes).gives taken

-- a reply has one outcome at most
pub one_showing : (asked : ApAskedRecord) (bytes : Bytes) (a b : Shown) → TakesApReply asked bytes a → TakesApReply asked bytes b → a ≡ b
one_showing asked bytes = (takes_ap_reply asked bytes).one
