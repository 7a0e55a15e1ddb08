-- A request's header is judged, a ticket has its times, and what grants it has a reply.
use Rattle.std.proofs.Common.{◌≡◌, ◌≤◌, ◌<◌, ℕ, ◌+◌, min, nat_lt, Bool, not, ◌&&◌, List, length, drop, Option, None, Some, Result, Ok, Err, true, false, refl, ap, sym, subst, if◌then◌else◌, arith}
use Rattle.std.specs.Option.{option_map}
use Rattle.std.proofs.lemmas.List.{length-drop, length-take-le}
use Rattle.asn1_leaves.specs.GeneralizedTime.{seconds_of}
use Rattle.asn1_leaves.specs.declared.date.GeneralizedTime.{GeneralizedTime}
use Rattle.picky_asn1.specs.declared.wrapper.GeneralizedTimeAsn1.{GeneralizedTimeAsn1}
use Rattle.picky_asn1_der.specs.declared.wrapper.ExplicitContextTag.{ExplicitContextTag}
use Rattle.krb_messages.specs.declared.data_types.enc_ticket_part.EncTicketPartInner.{EncTicketPartInner}
use Rattle.picky_asn1.specs.Numbers.{is_number}
use Rattle.block_ciphers.specs.Bytes.{IsBytes}
use Rattle.block_ciphers.proofs.States.{IsBytes-drop, IsBytes-take}
use Rattle.krb_time.specs.Moment.{IsMoment}
use Rattle.krb_crypto.specs.Suites.{cipher_confounder_size, cipher_key_size}
use Rattle.krb_crypto.specs.declared.suite.CipherSuite.{CipherSuite}
use Rattle.krb_crypto.proofs.AllSuites.{confounder_below}
use Rattle.krb_crypto.proofs.SealedTexts.{has_sealed}
use Rattle.krb_realm_accounts.specs.Account.{AccountRecord}
use Rattle.krb_messages.specs.Names.{is_same_realm}
use Rattle.krb_messages.specs.RandomBytes.{random_part}
use Rattle.krb_messages.specs.declared.data_types.encrypted_data.EncryptedData.{EncryptedData}
use Rattle.krb_messages.specs.declared.messages.kdc_req.KdcReq.{KdcReq}
use Rattle.krb_messages.specs.declared.messages.kdc_req_body.KdcReqBody.{KdcReqBody}
use Rattle.decision_tables.specs.Tables.{Table, done, make, refuse}
use Rattle.decision_tables.proofs.Outcomes.{HasOutcome, has_done, has_made, has_refused, some_of}
use Rattle.krb_tickets.specs.Sealing.{Seals, encrypted_by}
use Rattle.krb_tickets.specs.Grant.{GrantRecord}
use Rattle.krb_tickets.specs.Parts.{kdc_reply_of, reply_part, ticket_of, ticket_part}
use Rattle.krb_tickets.specs.ReplyKeys.{ReplyKeyRecord}
use Rattle.krb_tickets.specs.Sealed.{kdc_reply_bytes, reply_part_bytes, ticket_part_bytes}
use Rattle.krb_kdc_exchanges.specs.Times.{asked_end, end_of, old_end, start_of}
use Rattle.krb_tickets.specs.Granted.{IsTicketReply, sole_ticket_reply}
use Rattle.krb_kdc_exchanges.specs.Calls.{IsKeyed}
use Rattle.krb_kdc_exchanges.specs.Granting.{replied}
use Rattle.krb_kdc_exchanges.specs.Requests.{IsSpan, header_rows, is_ended, is_postdated, lasting, lasting_to, sole_span}
use Rattle.krb_kdc_exchanges.specs.Renewals.{IsTill, granted_till, renew_till_of, sole_till, till_limit}
use Rattle.krb_kdc_exchanges.specs.declared.span.Span.{Span}
use Rattle.krb_kdc_exchanges.proofs.Seconds.{has_time}
use Rattle.krb_kdc_exchanges.proofs.Written.{IsWritten}

-- the header's rows
pub has_header : (kind : ℕ) (realm : List ℕ) (is_refused : Bool) (request : KdcReq) → HasOutcome (header_rows kind realm is_refused request)
has_header kind realm is_refused request =
    rows (not (is_number 5 request.pvno.0)) (not (is_number kind request.msg_type.0)) (not (is_same_realm request.req_body.0.realm.0 realm))
    is_refused (is_postdated request.req_body.0.kdc_options.0)
  where
    rows : (a b c d e : Bool) → HasOutcome (refuse {T = Unit {0}} {E = ℕ} a 3 (refuse b 40 (refuse c 68 (refuse d 13 (refuse e 10 (done (Ok tt)))))))
    rows true b c d e = has_done (Err 3)
    rows false true c d e = has_done (Err 40)
    rows false false true d e = has_done (Err 68)
    rows false false false true e = has_done (Err 13)
    rows false false false false true = has_done (Err 10)
    rows false false false false false = has_done (Ok tt)

-- the front of a place of sixteen of the random bytes
block_of : (suite : CipherSuite) (from : ℕ) (words : List ℕ) → from + 16 ≤ length words → length (random_part from (cipher_confounder_size suite) words) ≡ cipher_confounder_size suite
block_of suite from words long =
    length-take-le (cipher_confounder_size suite) (drop from words) (omega (arith, length-drop from words, confounder_below suite))

has_data : (suite : CipherSuite) (key : List ℕ) (kvno : Option ℕ) (usage from : ℕ) (words plain : List ℕ) → length key ≡ cipher_key_size suite → IsBytes key
    → from + 16 ≤ length words → IsBytes words → IsBytes plain → (made : EncryptedData) × Seals suite key kvno usage (random_part from (cipher_confounder_size suite) words) plain made
has_data suite key kvno usage from words plain sized key_bytes long random_bytes plain_bytes =
    let size = cipher_confounder_size suite in
    let made = has_sealed suite key usage (random_part from size words) plain sized key_bytes (block_of suite from words long)
    (IsBytes-take size (drop from words) (IsBytes-drop from words random_bytes)) plain_bytes in
    (encrypted_by suite kvno made.0, record { cipher = made.0; seals = made.1; told = refl })

has_ticket_reply : (grant : GrantRecord) (under : ReplyKeyRecord) (service : AccountRecord) (words : List ℕ) → length under.key ≡ cipher_key_size under.suite → IsBytes under.key → IsKeyed service
    → 128 ≤ length words → IsBytes words → IsWritten under.exchange grant → (bytes : List ℕ) × IsTicketReply grant under service words bytes
has_ticket_reply grant under service words sized key_bytes service_key long random_bytes written =
    let ticket = has_data service.suite service.key (Some service.kvno) 2 32 words (ticket_part_bytes (ticket_part grant)) service_key.sized service_key.bytes (omega arith) random_bytes written.ticket in
    let reply = has_data under.suite under.key under.kvno under.usage 48 words (reply_part_bytes under.exchange (reply_part grant)) sized key_bytes (omega arith) random_bytes written.reply in (
      kdc_reply_bytes under.exchange (kdc_reply_of under.exchange under.pk_as_rep grant (ticket_of grant ticket.0) reply.0),
      record { ticket_data = ticket.0; ticket_sealed = ticket.1; reply_data = reply.0; reply_sealed = reply.1; encoding = refl },
    )

pub has_replied : (grant : GrantRecord) (under : ReplyKeyRecord) (service : AccountRecord) (words : List ℕ) → length under.key ≡ cipher_key_size under.suite → IsBytes under.key → IsKeyed service
    → 128 ≤ length words → IsBytes words → IsWritten under.exchange grant → HasOutcome (replied grant under service words)
has_replied grant under service words sized key_bytes service_key long random_bytes written =
    let made = has_ticket_reply grant under service words sized key_bytes service_key long random_bytes written in
    let end : List ℕ → Table (Result (List ℕ) ℕ) = λ bytes. done (Ok bytes) in
    has_made (IsTicketReply grant under service words) (sole_ticket_reply grant under service words) end
    (some_of (IsTicketReply grant under service words) made.0 made.1) (λ bytes y. has_done (Ok bytes))

-- a ticket starts and ends in seconds that times have
least : (a b c : ℕ) → min a (min b (min c 315569519999)) < 315569520000
least a b c = grind (arith)

has_span : (lifetime moment : ℕ) (old : Option ℕ) (till : ℕ) → IsMoment moment → (span : Span) × IsSpan lifetime moment old till span
has_span lifetime moment old till in_time =
    let starttime = has_time (start_of moment) (omega arith) in
    let endtime = has_time (end_of lifetime (start_of moment) old till) (least (asked_end till) (start_of moment + lifetime) (old_end old)) in
    (record { starttime = starttime.0; endtime = endtime.0 }, record { starts = starttime.1; ends = endtime.1 })

pub has_lasting_to : (lifetime moment : ℕ) (old : Option ℕ) (till : ℕ) → IsMoment moment → HasOutcome (lasting_to lifetime moment old till)
has_lasting_to lifetime moment old till in_time =
    let own = has_span lifetime moment old till in_time in
    let rest : Span → Table (Result Span ℕ) = λ span. refuse (is_ended span) 11 (done (Ok span)) in
    has_made (IsSpan lifetime moment old till) (sole_span lifetime moment old till) rest (some_of (IsSpan lifetime moment old till) own.0 own.1)
    (λ span x. has_refused {T = Span} (is_ended span) 11 (done (Ok span)) (λ _. has_done (Ok span)))

pub has_lasting : (lifetime moment : ℕ) (old : Option ℕ) (body : KdcReqBody) → IsMoment moment → HasOutcome (lasting lifetime moment old body)
has_lasting lifetime moment old body in_time = has_lasting_to lifetime moment old (seconds_of body.till.0.0) in_time

-- what the table gives for the time of a ticket is a time
pub lasts_to : (lifetime moment : ℕ) (old : Option ℕ) (till : ℕ) (span : Span) → (lasting_to lifetime moment old till).gives (Ok span) → IsSpan lifetime moment old till span
lasts_to lifetime moment old till span (own, is, given) =
    elim (is_ended own) as (λ b. (refuse {T = Span} {E = ℕ} b 11 (done (Ok own))).gives (Ok span) → IsSpan lifetime moment old till span) [
      | true ↦ λ x. absurd (cc (x))
      | false ↦ λ x. let same : span ≡ own = cc (x) in subst (λ s. IsSpan lifetime moment old till s) (sym same) is
    ] given

pub lasts : (lifetime moment : ℕ) (old : Option ℕ) (body : KdcReqBody) (span : Span) → (lasting lifetime moment old body).gives (Ok span) → IsSpan lifetime moment old (seconds_of body.till.0.0) span
lasts lifetime moment old body span x = lasts_to lifetime moment old (seconds_of body.till.0.0) span x

-- a renew-till that is granted is a time's
till_of : (is : Bool) (till : ℕ) → till < 315569520000 → (own : Option GeneralizedTime) × IsTill (if is then Some till else None) own
till_of true till below = let time = has_time till below in (Some time.0, ap Some time.1)
till_of false till below = (None, refl)

pub has_granted_till : (life : ℕ) (span : Span) (old asked : Option ℕ) → (own : Option GeneralizedTime) × IsTill (granted_till life span old asked) own
has_granted_till life span old None = (None, refl)
has_granted_till life span old (Some asked) =
    let start : ℕ = seconds_of span.starttime in
    till_of (nat_lt 0 life && nat_lt (seconds_of span.endtime) (min asked (till_limit life start old))) (min asked (till_limit life start old)) (least asked (start + life) (old_end old))

-- and so is the presented ticket's
pub has_old_till : (part : EncTicketPartInner) → (own : Option GeneralizedTime) × IsTill (renew_till_of part) own
has_old_till part = (option_map (λ tagged. tagged.0.0) part.renew_till.0, by part.renew_till.0)
  where
    by : (given : Option (ExplicitContextTag 8 GeneralizedTimeAsn1)) → option_map seconds_of (option_map (λ tagged. tagged.0.0) given) ≡ option_map (λ tagged. seconds_of tagged.0.0) given
    by None = refl
    by (Some tagged) = refl

-- with a renew-till there is a reply
pub has_tilled : (wanted : Option ℕ) (grant : Option GeneralizedTime → GrantRecord) (under : ReplyKeyRecord) (service : AccountRecord) (words : List ℕ) → ((own : Option GeneralizedTime) × IsTill wanted own)
    → length under.key ≡ cipher_key_size under.suite → IsBytes under.key → IsKeyed service → 128 ≤ length words → IsBytes words → ((till : Option GeneralizedTime) → IsWritten under.exchange (grant till))
    → HasOutcome (make (IsTill wanted) (sole_till wanted) (λ till. replied (grant till) under service words))
has_tilled wanted grant under service words own sized key_bytes service_key long random_bytes written =
    let rest : Option GeneralizedTime → Table (Result (List ℕ) ℕ) = λ till. replied (grant till) under service words in
    has_made (IsTill wanted) (sole_till wanted) rest (some_of (IsTill wanted) own.0 own.1)
    (λ till x. has_replied (grant till) under service words sized key_bytes service_key long random_bytes (written till))
