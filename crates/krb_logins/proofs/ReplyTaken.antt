-- The client takes the service's reply, whose part has the authenticator's time.
use Rattle.std.proofs.Common.{◌≡◌, ◌/◌, ◌%◌, ◌==◌, true, not, [], Option, None, Some, Ok, Err, refl, sym, ap, subst, arith}
use Rattle.std.proofs.lemmas.Bool.{and_from, eq-eqb}
use Rattle.std.specs.Prelude.{pos}
use Rattle.asn1_der.specs.Tree.{IsWhole, der, ders, more, none}
use Rattle.picky_asn1.specs.Bytes.{Bytes}
use Rattle.asn1_leaves.specs.GeneralizedTime.{seconds_of}
use Rattle.picky_asn1.specs.Numbers.{is_number}
use Rattle.krb_crypto.specs.declared.suite.CipherSuite.{CipherSuite}
use Rattle.krb_crypto.specs.Suites.{cipher_confounder_size}
use Rattle.krb_time.specs.Units.{Micros}
use Rattle.krb_messages.specs.declared.data_types.authenticator.AuthenticatorInner.{AuthenticatorInner}
use Rattle.krb_messages.specs.declared.data_types.enc_ap_rep_part.EncApRepPartInner.{EncApRepPartInner}
use Rattle.krb_messages.specs.declared.data_types.encrypted_data.EncryptedData.{EncryptedData}
use Rattle.krb_messages.specs.Messages.{IsApRep, ap_rep_tree, enc_ap_rep_part_tree, sole_ap_rep}
use Rattle.krb_messages.specs.MessageTrees.{ap_rep_inner_tree}
use Rattle.krb_tickets.specs.Sealing.{Seals, encrypted_by, sealed_opens}
use Rattle.decision_tables.specs.Tables.{Table, ask, done}
use Rattle.krb_messages.specs.RandomBytes.{Random, ap_reply_confounder}
use Rattle.krb_service.specs.ApReply.{IsReply, IsReplyUnder, ap_rep_of, ap_rep_part, ap_rep_part_with}
use Rattle.krb_service.specs.declared.reply.ReplyFields.{ReplyFields}
use Rattle.krb_service.specs.declared.reply.ReplyFields.TheVariants.{SubkeyAndNumber, TimeAlone}
use Rattle.krb_client.specs.Asked.{ApAskedRecord}
use Rattle.krb_client.specs.ApReply.{IsApPart, Shown, TakesApReply, sole_ap_part, takes_answer, takes_ap_reply, takes_time, tells}
use Rattle.krb_client.specs.Messages.{sole_error_code, IsErrorCode}
use Rattle.krb_client.specs.declared.refusal.TakeRefusal.TheVariants.{NotAsked, NotSealed, Refused, Unreadable}
use Rattle.krb_logins.specs.Steps.{reply_bytes}
use Rattle.krb_logins.proofs.NoErrors.{no_error}
use Rattle.krb_logins.proofs.Passing.{past_ask, past_none, past_refuse}

-- the reply, and its part, with any fields, can be written
pub whole_reply : (suite : CipherSuite) (cipher : Bytes) → IsWhole (ap_rep_tree (ap_rep_of (encrypted_by suite None cipher)))
whole_reply suite cipher = (((tt, tt), ((tt, tt), ((((tt, tt), ((tt, tt), tt)), tt), tt))), tt)

pub whole_part : (fields : ReplyFields) (suite : CipherSuite) (words : Random) (authenticator : AuthenticatorInner) → IsWhole (enc_ap_rep_part_tree (ap_rep_part_with fields suite words authenticator))
whole_part TimeAlone suite words authenticator = (((tt, tt), ((tt, tt), tt)), tt)
whole_part SubkeyAndNumber suite words authenticator = (((tt, tt), ((tt, tt), ((((tt, tt), ((tt, tt), tt)), tt), ((tt, tt), tt)))), tt)

-- the reply as it is read
pub reply_read : (suite : CipherSuite) (key confounder bytes : Bytes) (authenticator : AuthenticatorInner) (x : IsReplyUnder suite key confounder authenticator bytes) → IsApRep bytes (ap_rep_of x.part)
reply_read suite key confounder bytes authenticator x =
    (subst (λ part. IsWhole (ap_rep_tree (ap_rep_of part))) (sym x.sealed.told) (whole_reply suite x.sealed.cipher), x.encoding)

-- and its part as it is opened
pub part_opened : (asked : ApAskedRecord) (suite : CipherSuite) (key confounder bytes : Bytes) (authenticator : AuthenticatorInner) → suite ≡ asked.suite → key ≡ asked.key
    → (x : IsReplyUnder suite key confounder authenticator bytes) → IsApPart asked x.part (ap_rep_part authenticator)
unfolding IsApPart
part_opened asked suite key confounder bytes authenticator same_suite same_key x =
    let plain : Bytes = der (enc_ap_rep_part_tree (ap_rep_part authenticator)) in
    let sealed = subst (λ k. Seals suite k None 12 confounder plain x.part) same_key x.sealed in
    let under = subst (λ s. Seals s asked.key None 12 confounder plain x.part) same_suite sealed in
    sealed_opens enc_ap_rep_part_tree (ap_rep_part authenticator) asked.suite asked.key None 12 confounder plain x.part (whole_part TimeAlone asked.suite [] authenticator, refl) under

-- the authenticator's time is the one that is told
pub tells_time : (moment : Micros) (authenticator : AuthenticatorInner) → seconds_of authenticator.ctime.0.0 ≡ moment / 1000000 → authenticator.cusec.0 ≡ pos (moment % 1000000)
    → tells moment (ap_rep_part authenticator) ≡ true
tells_time moment authenticator second micros =
    let own = eq-eqb (moment % 1000000) (moment % 1000000) refl in
    and_from (seconds_of authenticator.ctime.0.0 == moment / 1000000) (is_number (moment % 1000000) authenticator.cusec.0) (eq-eqb (seconds_of authenticator.ctime.0.0) (moment / 1000000) second)
    (subst (λ told. is_number (moment % 1000000) told ≡ true) (sym micros) own)

-- what the rows say in turn
answer_taken : (asked : ApAskedRecord) (reply : EncryptedData) (part : EncApRepPartInner) (taken : Shown) → tells asked.time part ≡ true → IsApPart asked reply part
    → (takes_answer asked (ap_rep_of reply)).gives taken → taken ≡ Ok tt
answer_taken asked reply part taken told opened x =
    let time = past_ask (IsApPart asked reply) (sole_ap_part asked reply) (done (Err NotSealed)) (takes_time asked) part taken opened x in
    past_refuse (not (tells asked.time part)) NotAsked (done (Ok tt)) taken (ap not told) time

pub reply_taken : (asked : ApAskedRecord) (suite : CipherSuite) (key confounder bytes : Bytes) (authenticator : AuthenticatorInner) (taken : Shown) → suite ≡ asked.suite → key ≡ asked.key
    → seconds_of authenticator.ctime.0.0 ≡ asked.time / 1000000 → authenticator.cusec.0 ≡ pos (asked.time % 1000000)
    → IsReplyUnder suite key confounder authenticator bytes → TakesApReply asked bytes taken → taken ≡ Ok tt
unfolding takes_ap_reply
reply_taken asked suite key confounder bytes authenticator taken same_suite same_key second micros x y =
    let read = reply_read suite key confounder bytes authenticator x in
    let opened = part_opened asked suite key confounder bytes authenticator same_suite same_key x in
    let replies : Table Shown = ask (IsApRep bytes) (sole_ap_rep bytes) (done (Err Unreadable)) (takes_answer asked) in
    let reply = past_none (IsErrorCode bytes) (sole_error_code bytes) replies (λ code. done (Err (Refused code))) taken (no_error 111 (ders (more (ap_rep_inner_tree (ap_rep_of x.part)) none)) bytes x.encoding (λ e. omega (arith, e))) y in
    let answer = past_ask (IsApRep bytes) (sole_ap_rep bytes) (done (Err Unreadable)) (takes_answer asked) (ap_rep_of x.part) taken read reply in
    answer_taken asked x.part (ap_rep_part authenticator) taken (tells_time asked.time authenticator second micros) opened answer

-- if a reply is required, there is one, and the client takes it
pub wanted_taken : (asked : ApAskedRecord) (words : Random) (suite : CipherSuite) (key : Bytes) (authenticator : AuthenticatorInner) (reply : Option Bytes) (taken : Shown) → suite ≡ asked.suite → key ≡ asked.key
    → seconds_of authenticator.ctime.0.0 ≡ asked.time / 1000000 → authenticator.cusec.0 ≡ pos (asked.time % 1000000)
    → IsReply true words suite key authenticator reply → TakesApReply asked (reply_bytes reply) taken → taken ≡ Ok tt
wanted_taken asked words suite key authenticator None taken same_suite same_key second micros x y = absurd x
wanted_taken asked words suite key authenticator (Some bytes) taken same_suite same_key second micros x y =
    reply_taken asked suite key (ap_reply_confounder (cipher_confounder_size suite) words) bytes authenticator taken same_suite same_key second micros x y
