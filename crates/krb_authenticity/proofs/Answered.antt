-- What a service replies to what it admits is an answer that it sent, and what a client takes as an AP-REP some service sent.
use Rattle.std.proofs.Common.{◌≡◌, ◌⊎◌, ℕ, ◌/◌, ◌%◌, ◌==◌, Bool, true, false, not, List, Option, None, Some, Result, Ok, Err, refl, sym, ap, subst, ◌∙◌, inl, inr}
use Rattle.std.proofs.lemmas.Bool.{and_parts, eqb-true}
use Rattle.asn1_der.specs.Tree.{der}
use Rattle.asn1_leaves.specs.GeneralizedTime.{seconds_of}
use Rattle.decision_tables.specs.Tables.{Table, and_then, ask, done, make}
use Rattle.picky_asn1.specs.Bytes.{Bytes}
use Rattle.picky_asn1.specs.Numbers.{is_number}
use Rattle.krb_crypto.specs.Suites.{cipher_confounder_size}
use Rattle.krb_crypto.specs.declared.suite.CipherSuite.{CipherSuite}
use Rattle.krb_messages.specs.Messages.{IsApRep, IsApReq, enc_ap_rep_part-injective, enc_ap_rep_part_tree}
use Rattle.krb_messages.specs.RandomBytes.{ap_reply_confounder}
use Rattle.krb_messages.specs.declared.data_types.authenticator.AuthenticatorInner.{AuthenticatorInner}
use Rattle.krb_messages.specs.declared.data_types.enc_ap_rep_part.EncApRepPartInner.{EncApRepPartInner}
use Rattle.krb_messages.specs.declared.data_types.encrypted_data.EncryptedData.{EncryptedData}
use Rattle.krb_messages.specs.declared.messages.ap_rep.ApRepInner.{ApRepInner}
use Rattle.krb_messages.specs.declared.messages.ap_req.ApReqInner.{ApReqInner}
use Rattle.krb_time.specs.Skew.{is_far}
use Rattle.krb_time.specs.Times.{moment_at}
use Rattle.krb_kdc_exchanges.specs.Rows.{PkinitRows}
use Rattle.krb_ap_requests.specs.ApTable.{presented}
use Rattle.krb_ap_requests.specs.Entry.{EntryRecord}
use Rattle.krb_ap_requests.specs.declared.presented.Presented.{Presented}
use Rattle.krb_ap_requests.specs.declared.refusal.AdmitRefusal.{AdmitRefusal}
use Rattle.krb_ap_requests.proofs.Chosen.{chosen_as_received}
use Rattle.krb_ap_requests.proofs.Shown.{both, ok_same}
use Rattle.krb_client.specs.ApReply.{IsApPart, Shown, sole_ap_part, takes_answer, takes_ap_reply, takes_time, tells}
use Rattle.krb_client.specs.Asked.{ApAskedRecord}
use Rattle.krb_client.specs.Taking.{is_of_type}
use Rattle.krb_client.specs.declared.refusal.TakeRefusal.{TakeRefusal}
use Rattle.krb_client.specs.declared.refusal.TakeRefusal.TheVariants.{NotAsked, NotSealed, Unreadable}
use Rattle.krb_service.specs.Admission.{AdmissionRecord, admission_of}
use Rattle.krb_service.specs.ApReply.{IsReplyBy, IsReplyOf, IsReplyWith, ap_rep_part_with, sole_reply_with}
use Rattle.krb_service.specs.Once.{Admitted, fresh, once_with}
use Rattle.krb_service.specs.Pair.{PairRecord}
use Rattle.krb_service.specs.RememberingService.{Outcome, outcome_of, remembering_by}
use Rattle.krb_service.specs.declared.reply.ReplyFields.{ReplyFields}
use Rattle.krb_service.specs.declared.reply.ReplyFields.TheVariants.{SubkeyAndNumber, TimeAlone}
use Rattle.krb_service.proofs.Admitting.{passes}
use Rattle.krb_logins.proofs.ReplyTaken.{whole_part}
use Rattle.krb_logins.proofs.TakenParts.{is_so, past_case}
use Rattle.krb_logins.proofs.Times.{moment_told}
use Rattle.krb_authenticity.specs.Among.{IsAmong}
use Rattle.krb_authenticity.specs.Ciphertexts.{CiphertextRecord, IsApReplyOf, IsUnforged, OpensApReply, ap_reply_under}
use Rattle.krb_authenticity.specs.Parties.{AnswerRecord, ExchangeRecord, IsAnswerSent, SentRecord, answer_with, content_of, session_of}
use Rattle.krb_authenticity.specs.Taken.{IsOpenedBy, IsServicesReply}
use Rattle.krb_authenticity.proofs.Authenticated.{same_some}
use Rattle.krb_authenticity.proofs.Made.{ap_reply_made}
use Rattle.krb_authenticity.proofs.Opened.{OpensTo, number_is, one_opened, sealed_to}

-- ---- what a service sends

module _ (fields : ReplyFields) (skew moment : ℕ) (admitted : List PairRecord) (words : List ℕ) (p : Presented) where
  abbrev replying : PairRecord → Table (Result Admitted ℕ)
  replying pair = make (IsReplyWith fields p words) (sole_reply_with fields p words) (λ reply. done (Ok (record { admission = admission_of p reply; pair = pair })))

  -- the reply to what is admitted
  replied : (made : Admitted) → (once_with fields skew moment admitted words p).gives (Ok made)
      → (reply : Option Bytes) × IsReplyWith fields p words reply × (made.admission ≡ admission_of p reply)
  unfolding once_with
  replied made x =
      let near = passes {T = Admitted} (is_far skew moment p.time) 37 (and_then (fresh admitted p) replying) made x in
      let own = both {A = PairRecord} {T = Admitted} (fresh admitted p) replying made near.1 in
      let last = own.2 in
      let whole : Admitted = record { admission = admission_of p last.0; pair = own.0 } in
      (last.0, last.1, ap (λ (m : Admitted). m.admission) (ok_same made whole last.2))

-- where a reply is made there is one
reply_made : (wanted : Bool) (IsMade : Bytes → Type 0) (reply : Option Bytes) (bytes : Bytes) → reply ≡ Some bytes → IsReplyBy wanted IsMade reply → IsMade bytes
reply_made false IsMade reply bytes e none = absurd (cc (e, none))
reply_made true IsMade None bytes e x = absurd x
reply_made true IsMade (Some own) bytes e x = let same : own ≡ bytes = cc (e) in subst IsMade same x

-- the outcome of a table that admits
outcome_made : (admitted after : List PairRecord) (admission : AdmissionRecord) (r : Result Admitted ℕ) → ◌≡◌ {A = Outcome} (Ok admission, after) (outcome_of admitted r)
    → (made : Admitted) × (r ≡ Ok made) × (admission ≡ made.admission)
outcome_made admitted after admission (Ok made) e =
    let same : ◌≡◌ {A = Result AdmissionRecord AdmitRefusal} (Ok admission) (Ok made.admission) = ap (λ (o : Outcome). o.0) e in (made, refl, cc (same))
outcome_made admitted after admission (Err code) e = let same = ap (λ (o : Outcome). o.0) e in absurd (cc (same))

module _ (entry : EntryRecord) (skew : ℕ) (fields : ReplyFields) (moment : ℕ) (admitted : List PairRecord) (message words : List ℕ) (admission : AdmissionRecord) where
  abbrev IsSent : Bytes → Type 0
  IsSent reply = (p : Presented) × IsAnswerSent (answer_with p fields words admission reply) × IsOpenedBy entry message p

  sent_of : (reply : Bytes) → admission.reply ≡ Some reply → (request : ApReqInner) → IsApReq message request → (made : Admitted) → admission ≡ made.admission
      → (and_then (presented entry skew moment request) (once_with fields skew moment admitted words)).gives (Ok made) → IsSent reply
  sent_of reply has request read made same x =
      let own = both {A = Presented} {T = Admitted} (presented entry skew moment request) (once_with fields skew moment admitted words) made x in
      let p : Presented = own.0 in
      let received = chosen_as_received entry skew moment message request p read own.1 in
      let answered = replied fields skew moment admitted words p made own.2 in
      let admits : admission ≡ admission_of p answered.0 = same ∙ answered.2 in
      let given : answered.0 ≡ Some reply = sym (ap (λ (a : AdmissionRecord). a.reply) admits) ∙ has in (
        p,
        record {
          admits = admits ∙ ap (admission_of p) given;
          ctime = subst (λ (q : Presented). moment_at (seconds_of q.authenticator.ctime.0.0) q.authenticator.cusec.0 ≡ Some q.time) (sym received.shown) received.acceptable.ctime;
          reply = reply_made p.wants_reply
              (IsReplyOf p.suite (session_of p) (ap_reply_confounder (cipher_confounder_size p.suite) words) (ap_rep_part_with fields p.suite words p.authenticator))
              answered.0 reply given answered.1;
        },
        record { choice = received.choice; presents = received.presents; is_part = ap (λ (q : Presented). q.part) received.shown },
      )

  pub answer_sent : (after : List PairRecord) → (remembering_by entry skew fields moment admitted message words).gives (Ok admission, after) → (reply : Bytes) → admission.reply ≡ Some reply → IsSent reply
  unfolding remembering_by
  answer_sent after (inl (request, read, (r, judged, e))) reply has =
      let made = outcome_made admitted after admission r e in
      sent_of reply has request read made.0 made.2
      (subst (λ (own : Result Admitted ℕ). (and_then (presented entry skew moment request) (once_with fields skew moment admitted words)).gives own) made.1 judged)
  answer_sent after (inr (none, e)) reply has = let same = ap (λ (o : Outcome). o.0) e in absurd (cc (same))

-- ---- what a client takes

-- the part was opened, and has the time that the client asked with
pub record IsShownSo (asked : ApAskedRecord) (message : Bytes) : Type 0 where
  pub reply : ApRepInner
  pub read : IsApRep message reply
  pub part : EncApRepPartInner
  pub opens : IsApPart asked reply.enc_part.0 part
  pub has_time : tells asked.time part ≡ true

abbrev took : Shown
took = Ok tt

abbrev refused_as : TakeRefusal → Shown
refused_as refusal = Err refusal

answer_opened : (asked : ApAskedRecord) (message : Bytes) (reply : ApRepInner) → IsApRep message reply
    → ((part : EncApRepPartInner) × IsApPart asked reply.enc_part.0 part × (takes_time asked part).gives (Ok tt))
    ⊎ (((part : EncApRepPartInner) → IsApPart asked reply.enc_part.0 part → ⊥) × (took ≡ refused_as NotSealed)) → IsShownSo asked message
answer_opened asked message reply read (inl (part, opened, x)) =
    let own = past_case {T = Unit {0}} (not (tells asked.time part)) NotAsked (done (Ok tt)) tt x in
    record { reply = reply; read = read; part = part; opens = opened; has_time = is_so (tells asked.time part) own.0 }
answer_opened asked message reply read (inr (none, e)) = absurd (cc (e))

answer_read : (asked : ApAskedRecord) (message : Bytes)
    → ((reply : ApRepInner) × IsApRep message reply × (takes_answer asked reply).gives (Ok tt)) ⊎ (((reply : ApRepInner) → IsApRep message reply → ⊥) × (took ≡ refused_as Unreadable))
    → IsShownSo asked message
answer_read asked message (inl (reply, read, x)) =
    let opening : Table Shown = ask (IsApPart asked reply.enc_part.0) (sole_ap_part asked reply.enc_part.0) (done (Err NotSealed)) (takes_time asked) in
    let own = past_case {T = Unit {0}} (not (is_of_type 15 reply.pvno.0 reply.msg_type.0)) Unreadable opening tt x in
    answer_opened asked message reply read own.1
answer_read asked message (inr (none, e)) = absurd (cc (e))

shown_so : (asked : ApAskedRecord) (message : Bytes) → (takes_ap_reply asked message).gives (Ok tt) → IsShownSo asked message
unfolding takes_ap_reply
shown_so asked message (inl (code, is, e)) = absurd (cc (e))
shown_so asked message (inr (none, x)) = answer_read asked message x

ap_opens : (asked : ApAskedRecord) (encrypted : EncryptedData) (part : EncApRepPartInner) → IsApPart asked encrypted part
    → OpensTo {T = EncApRepPartInner} enc_ap_rep_part_tree (ap_reply_under asked.suite asked.key encrypted.cipher.0) part
unfolding IsApPart
ap_opens asked encrypted part x = x.opens

-- what a service sent opens to its content
content_opens : (answer : AnswerRecord) (is : IsAnswerSent answer)
    → OpensTo {T = EncApRepPartInner} enc_ap_rep_part_tree (ap_reply_under answer.presented.suite (session_of answer.presented) is.reply.part.cipher.0) (content_of answer)
content_opens answer is =
    sealed_to {T = EncApRepPartInner} enc_ap_rep_part_tree (content_of answer) answer.presented.suite (session_of answer.presented) None 12
    (ap_reply_confounder (cipher_confounder_size answer.presented.suite) answer.words) (der (enc_ap_rep_part_tree (content_of answer))) is.reply.part
    (whole_part answer.fields answer.presented.suite answer.words answer.presented.authenticator, refl) is.reply.sealed

-- which has the authenticator's time
content_time : (fields : ReplyFields) (suite : CipherSuite) (words : List ℕ) (authenticator : AuthenticatorInner)
    → ((ap_rep_part_with fields suite words authenticator).ctime.0.0 ≡ authenticator.ctime.0.0) × ((ap_rep_part_with fields suite words authenticator).cusec.0 ≡ authenticator.cusec.0)
content_time TimeAlone suite words authenticator = (refl, refl)
content_time SubkeyAndNumber suite words authenticator = (refl, refl)

-- a part that has the time of the moment
time_told : (moment : ℕ) (part : EncApRepPartInner) → tells moment part ≡ true → moment_at (seconds_of part.ctime.0.0) part.cusec.0 ≡ Some moment
time_told moment part e =
    let parts = and_parts (seconds_of part.ctime.0.0 == moment / 1000000) (is_number (moment % 1000000) part.cusec.0) e in
    ap (λ micros. moment_at (seconds_of part.ctime.0.0) micros) (number_is (moment % 1000000) part.cusec.0 parts.1)
    ∙ moment_told moment (seconds_of part.ctime.0.0) (eqb-true (seconds_of part.ctime.0.0) (moment / 1000000) parts.0)

module _ (sent : SentRecord) (asked : ApAskedRecord) (message : Bytes) (so : IsShownSo asked message) where
  abbrev opened : CiphertextRecord
  opened = ap_reply_under asked.suite asked.key so.reply.enc_part.0.cipher.0

  by_answer : (answer : AnswerRecord) → IsAmong answer sent.answered → IsApReplyOf answer opened → (by : IsServicesReply sent asked) × (so.part ≡ content_of by.answer)
  by_answer answer among made =
      let same = one_opened {T = EncApRepPartInner} enc_ap_rep_part_tree enc_ap_rep_part-injective opened
      (ap_reply_under answer.presented.suite (session_of answer.presented) made.sent.reply.part.cipher.0) made.is so.part (content_of answer)
      (ap_opens asked so.reply.enc_part.0 so.part so.opens) (content_opens answer made.sent) in
      let time = content_time answer.fields answer.presented.suite answer.words answer.presented.authenticator in
      let own : moment_at (seconds_of answer.presented.authenticator.ctime.0.0) answer.presented.authenticator.cusec.0 ≡ Some asked.time =
      sym (ap (λ micros. moment_at (seconds_of answer.presented.authenticator.ctime.0.0) micros) (ap (λ (p : EncApRepPartInner). p.cusec.0) same ∙ time.1))
      ∙ sym (ap (λ second. moment_at (seconds_of second) so.part.cusec.0) (ap (λ (p : EncApRepPartInner). p.ctime.0.0) same ∙ time.0))
      ∙ time_told asked.time so.part so.has_time in (
        record {
          answer = answer;
          among = among;
          is_sent = made.sent;
          session = ap (λ (a : AdmissionRecord). a.session.key_value.0) made.sent.admits ∙ sym (ap (λ (c : CiphertextRecord). c.key) made.is);
          at_time = same_some answer.presented.time asked.time (sym made.sent.ctime ∙ own);
        },
        same,
      )

-- of a part that was opened so, and it is what the service sent
pub shown_replied : (rows : PkinitRows) (keys : List Bytes) (exchanges : List ExchangeRecord) (sent : SentRecord) (asked : ApAskedRecord) (message : Bytes)
    → IsUnforged rows keys exchanges sent (OpensApReply asked message) → IsAmong asked.key keys → (so : IsShownSo asked message)
    → (by : IsServicesReply sent asked) × (so.part ≡ content_of by.answer)
shown_replied rows keys exchanges sent asked message unforged kept so =
    let cipher : Bytes = so.reply.enc_part.0.cipher.0 in
    let made = ap_reply_made rows exchanges sent asked.suite asked.key cipher
    (unforged (ap_reply_under asked.suite asked.key cipher) (record { reply = so.reply; read = so.read; part = so.part; opens = so.opens; is = refl }) kept) in
    by_answer sent asked message so made.0 made.1 made.2

pub service_replied : (rows : PkinitRows) (keys : List Bytes) (exchanges : List ExchangeRecord) (sent : SentRecord) (asked : ApAskedRecord) (message : Bytes)
    → IsUnforged rows keys exchanges sent (OpensApReply asked message) → IsAmong asked.key keys → (takes_ap_reply asked message).gives (Ok tt) → IsServicesReply sent asked
service_replied rows keys exchanges sent asked message unforged kept given =
    (shown_replied rows keys exchanges sent asked message unforged kept (shown_so asked message given)).0
