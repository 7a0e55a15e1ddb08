-- The initiator takes the AP-REP of an honest login.
use Rattle.std.proofs.Common.{◌≡◌, ◌⊎◌, ◌/◌, ◌%◌, ℕ, Bool, true, not, None, Result, Ok, Err, refl, sym, ap, subst, ◌∙◌, inl, inr}
use Rattle.std.specs.Prelude.{pos}
use Rattle.asn1_der.specs.Tree.{IsWhole, der}
use Rattle.asn1_leaves.specs.GeneralizedTime.{seconds_of}
use Rattle.picky_asn1.specs.Bytes.{Bytes}
use Rattle.krb_crypto.specs.declared.suite.CipherSuite.{CipherSuite}
use Rattle.krb_messages.specs.declared.data_types.authenticator.AuthenticatorInner.{AuthenticatorInner}
use Rattle.krb_messages.specs.declared.data_types.enc_ap_rep_part.EncApRepPartInner.{EncApRepPartInner}
use Rattle.krb_messages.specs.Messages.{IsApRep, ap_rep_tree, enc_ap_rep_part_tree}
use Rattle.krb_tickets.specs.Sealing.{sealed_opens}
use Rattle.decision_tables.specs.Tables.{Table, done, refuse}
use Rattle.krb_messages.specs.RandomBytes.{Random}
use Rattle.krb_service.specs.ApReply.{IsReplyOf, ap_rep_of, ap_rep_part_with}
use Rattle.krb_service.specs.declared.reply.ReplyFields.{ReplyFields}
use Rattle.krb_service.specs.declared.reply.ReplyFields.TheVariants.{TimeAlone, SubkeyAndNumber}
use Rattle.krb_client.specs.Asked.{ApAskedRecord}
use Rattle.krb_client.specs.ApReply.{IsApPart, tells}
use Rattle.krb_logins.proofs.ReplyTaken.{tells_time, whole_part, whole_reply}
use Rattle.gss_contexts.specs.Contexts.{ContextRecord}
use Rattle.gss_acceptor.specs.Tokens.{ap_rep_token}
use Rattle.gss_initiator.specs.Replies.{answered}
use Rattle.gss_initiator.specs.Taking.{IsConcluded, TakenRecord, Takes, heard, kept, unasked}
use Rattle.gss_logins.proofs.Unnamed.{Heard}
use Rattle.gss_initiator.specs.declared.initiated.Pending.{Pending}
use Rattle.gss_initiator.specs.declared.refusal.InitiateRefusal.{InitiateRefusal}
use Rattle.gss_initiator.specs.declared.refusal.InitiateRefusal.TheVariants.{Memory, NotAsked}

-- the time that the part tells
module _ (time : ℕ) (authenticator : AuthenticatorInner) (second : seconds_of authenticator.ctime.0.0 ≡ time / 1000000) (micros : authenticator.cusec.0 ≡ pos (time % 1000000)) where
  tells_with : (fields : ReplyFields) (suite : CipherSuite) (words : Random) → tells time (ap_rep_part_with fields suite words authenticator) ≡ true
  tells_with TimeAlone suite words = tells_time time authenticator second micros
  tells_with SubkeyAndNumber suite words = tells_time time authenticator second micros

module _ (asked : ApAskedRecord) (fields : ReplyFields) (words : Random) (confounder bytes : Bytes) (authenticator : AuthenticatorInner)
    (x : IsReplyOf asked.suite asked.key confounder (ap_rep_part_with fields asked.suite words authenticator) bytes)
    (second : seconds_of authenticator.ctime.0.0 ≡ asked.time / 1000000) (micros : authenticator.cusec.0 ≡ pos (asked.time % 1000000)) where
  abbrev content : EncApRepPartInner
  content = ap_rep_part_with fields asked.suite words authenticator

  -- the reply as it is read
  reply_read : IsApRep bytes (ap_rep_of x.part)
  reply_read = (subst (λ part. IsWhole (ap_rep_tree (ap_rep_of part))) (sym x.sealed.told) (whole_reply asked.suite x.sealed.cipher), x.encoding)

  -- its part as it is opened
  part_opened : IsApPart asked x.part content
  unfolding IsApPart
  part_opened =
      let plain : Bytes = der (enc_ap_rep_part_tree content) in
      sealed_opens enc_ap_rep_part_tree content asked.suite asked.key None 12 confounder plain x.part (whole_part fields asked.suite words authenticator, refl) x.sealed

  pub answers : (answered asked (ap_rep_token bytes)).gives (Ok content)
  unfolding answered
  answers =
      let last : Table (Result EncApRepPartInner InitiateRefusal) = done (Ok content) in
      let told = tells_with asked.time authenticator second micros fields asked.suite words in
      let row = subst (λ (b : Bool). (refuse (not b) NotAsked last).gives (Ok content)) (sym told) refl in
      inl (bytes, refl, inl (ap_rep_of x.part, reply_read, inl (content, part_opened, row)))

-- what a token is heard as it is taken as, memory aside
same_heard : (a b : Heard) → ◌≡◌ {A = Result Heard InitiateRefusal} (Ok a) (Ok b) → a ≡ b
same_heard a b e = cc (e)

pub taken_as_heard : (pending : Pending) (token : Bytes) (context : ContextRecord) (result : Result TakenRecord InitiateRefusal) → (heard pending token).gives (Ok (unasked context)) → Takes pending token result
    → (result ≡ kept context None) ⊎ (result ≡ Err Memory)
taken_as_heard pending token context result own (inl (it, gives, ends)) =
    let same = same_heard it (unasked context) ((heard pending token).one (Ok it) (Ok (unasked context)) gives own) in
    inl (subst (λ (h : Heard). IsConcluded h result) same ends)
taken_as_heard pending token context result own (inr (refusal, is, inl memory)) = inr (is ∙ ap Err memory)
taken_as_heard pending token context result own (inr (refusal, is, inr gives)) =
    let never = (heard pending token).one (Err refusal) (Ok (unasked context)) gives own in absurd (cc (never))
