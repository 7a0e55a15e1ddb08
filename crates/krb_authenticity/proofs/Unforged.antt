-- What clients send is unforged: the premise of the laws holds of honest runs, whatever the keys.
use Rattle.std.proofs.Common.{◌≡◌, ◌⊎◌, ℕ, Bool, true, false, List, [], ◌∷◌, None, Some, get_or, refl, sym, ap, subst, ◌∙◌, inl, inr, arith}
use Rattle.asn1_der.specs.Length.{element}
use Rattle.asn1_der.specs.Tree.{der}
use Rattle.picky_asn1.specs.Bytes.{Bytes}
use Rattle.picky_asn1.specs.Numbers.{is_number}
use Rattle.krb_crypto.specs.Suites.{cipher_confounder_size, cipher_number}
use Rattle.krb_crypto.specs.declared.suite.CipherSuite.{CipherSuite}
use Rattle.krb_messages.specs.Names.{components}
use Rattle.krb_messages.specs.RandomBytes.{authenticator_confounder}
use Rattle.krb_messages.specs.Trees.{encrypted_data-injective}
use Rattle.krb_messages.specs.declared.data_types.authenticator.AuthenticatorInner.{AuthenticatorInner}
use Rattle.krb_messages.specs.declared.data_types.enc_ticket_part.EncTicketPartInner.{EncTicketPartInner}
use Rattle.krb_messages.specs.declared.data_types.encrypted_data.EncryptedData.{EncryptedData}
use Rattle.krb_messages.specs.declared.data_types.principal_name.PrincipalName.{PrincipalName}
use Rattle.krb_messages.specs.declared.data_types.ticket.TicketInner.{TicketInner}
use Rattle.krb_messages.specs.Messages.{IsApReq, IsAsReq, IsTgsReq, ap_req_tree, enc_ticket_part-injective, enc_ticket_part_tree, sole_ap_req, sole_as_req, sole_tgs_req}
use Rattle.krb_messages.specs.declared.messages.ap_req.ApReqInner.{ApReqInner}
use Rattle.krb_messages.specs.declared.messages.kdc_req.KdcReq.{KdcReq}
use Rattle.krb_messages.specs.declared.messages.kdc_req_body.KdcReqBody.{KdcReqBody}
use Rattle.krb_realm_accounts.specs.Account.{AccountKeyRecord, AccountRecord}
use Rattle.krb_tickets.specs.Sealing.{encrypted_by}
use Rattle.krb_kdc_exchanges.specs.Rows.{PkinitRows}
use Rattle.krb_messages.specs.Padata.{first_of, first_padata, padata_in}
use Rattle.krb_tickets.specs.Parts.{ticket_of, ticket_part}
use Rattle.krb_ap_requests.specs.Entry.{EntryRecord}
use Rattle.krb_ap_requests.specs.Presents.{Choice, Presents, request_of}
use Rattle.krb_kdc_exchanges.specs.Requests.{client_of}
use Rattle.krb_kdc_exchanges.specs.ByTicket.{IsByTicket}
use Rattle.krb_kdc_exchanges.specs.ChosenKeys.{chosen}
use Rattle.krb_client.specs.AsRequest.{as_body_with, as_request_of}
use Rattle.krb_client.specs.Authenticators.{IsApRequest, ap_request_of}
use Rattle.krb_client.specs.Client.{CredentialRecord}
use Rattle.krb_client.specs.Held.{principal_name}
use Rattle.krb_client.specs.Messages.{ap_request_bytes, as_request_bytes, encrypted_bytes}
use Rattle.krb_client.specs.Requests.{nonce_of}
use Rattle.krb_tickets.specs.MethodData.{pa_data_of}
use Rattle.krb_client.specs.TgsRequest.{further_request_with}
use Rattle.krb_logins.proofs.Names.{component_texts, realm_text}
use Rattle.krb_logins.proofs.WholePresented.{whole_request, whole_ticket}
use Rattle.krb_logins.proofs.WholeRequests.{as_request_with_written, tgs_request_with_written, writes_encrypted}
use Rattle.krb_authenticity.specs.Ciphertexts.{AreUnforged, CiphertextRecord, IsMade, IsUnforged, OpensAuthenticator, OpensTicket, OpensTimestamp, RealmOpens, ServiceOpens, authenticator_under, granting_under, ticket_under, timestamp_under}
use Rattle.krb_authenticity.specs.Honest.{AreHonest, IsByGrant, IsFirstHonest, IsFurtherHonest, IsServiceHonest}
use Rattle.krb_authenticity.specs.Parties.{ExchangeRecord, FirstRequest, FurtherRequest, SentRecord}
use Rattle.krb_authenticity.proofs.Opened.{OpensTo, one_opened, suite_of_number}
use Rattle.krb_authenticity.proofs.Tickets.{granted_opens, granted_texts, shown_opens}

same_bytes : (a b : Bytes) → Some a ≡ Some b → a ≡ b
same_bytes a b e = cc (e)

same_name : (a b : PrincipalName) → Some a ≡ Some b → a ≡ b
same_name a b e = cc (e)

same_account : (a b : AccountRecord) → Some a ≡ Some b → a ≡ b
same_account a b e = cc (e)

-- the first entry is the only one
own_timestamp : (value : Bytes) → first_of 2 (pa_data_of 2 value ∷ []) ≡ Some value
unfolding first_of first_padata
own_timestamp value = refl

own_ap_req : (value : Bytes) → first_of 1 (pa_data_of 1 value ∷ []) ≡ Some value
unfolding first_of first_padata
own_ap_req value = refl

-- an AS request is no TGS request
as_or_tgs : (bytes : Bytes) (a b : KdcReq) → IsAsReq bytes a → IsTgsReq bytes b → ⊥
unfolding element
as_or_tgs bytes a b x y = let first : 106 ≡ 108 = ap (λ octets. get_or octets 0 0) (sym x.1 ∙ y.1) in omega (arith, first)

-- ---- an AP-REQ by a ticket that was granted

module _ (rows : PkinitRows) (exchanges : List ExchangeRecord) (key : Bytes) (credential : CredentialRecord) (by : IsByGrant rows exchanges key credential)
    (usage : ℕ) (wanted : Bool) (authenticator : AuthenticatorInner) (confounder bytes : Bytes) (asks : IsApRequest credential usage wanted authenticator confounder bytes) where
  abbrev sealed_ticket : EncryptedData
  sealed_ticket = encrypted_by by.account.suite (Some by.account.kvno) by.granted.replied.ticket_sealed.cipher

  abbrev own_request : ApReqInner
  own_request = ap_request_of wanted (ticket_of by.grant sealed_ticket) (encrypted_by credential.suite None asks.sealed.cipher)

  -- the request as it is read
  read_so : IsApReq bytes own_request
  unfolding ap_request_bytes
  read_so =
      let texts = granted_texts rows by.exchange by.grant by.account by.granted in
      let ticket = by.ticket ∙ ap (ticket_of by.grant) by.granted.replied.ticket_sealed.told in
      let whole = whole_request wanted (ticket_of by.grant sealed_ticket) credential.suite asks.sealed.cipher
      (whole_ticket by.grant by.account.suite by.account.kvno by.granted.replied.ticket_sealed.cipher texts.realm texts.service) in (
        whole,
        asks.encoding
            ∙ ap (λ t. der (ap_req_tree (ap_request_of wanted t asks.part))) ticket
            ∙ ap (λ a. der (ap_req_tree (ap_request_of wanted (ticket_of by.grant sealed_ticket) a))) asks.sealed.told,
      )

  module _ (ap_req : ApReqInner) (same : ap_req ≡ own_request) where
    -- its ticket is that of the grant
    of_ticket : (suite : CipherSuite) → is_number (cipher_number suite) ap_req.ticket.0.0.enc_part.0.etype.0 ≡ true
        → ticket_under suite key ap_req.ticket.0.0.enc_part.0.cipher.0 ≡ ticket_under by.account.suite by.account.key by.granted.replied.ticket_data.cipher.0
    unfolding ticket_of
    of_ticket suite numbered =
        let same_suites = suite_of_number suite by.account.suite ap_req.ticket.0.0.enc_part.0.etype.0 numbered (ap (λ (r : ApReqInner). r.ticket.0.0.enc_part.0.etype.0) same) in
        let same_cipher = ap (λ (r : ApReqInner). r.ticket.0.0.enc_part.0.cipher.0) same ∙ sym (ap (λ (d : EncryptedData). d.cipher.0) by.granted.replied.ticket_sealed.told) in
        λ i. ticket_under (same_suites i) (sym by.sealed_for i) (same_cipher i)

    -- with the session key that is the credential's
    of_session : (suite : CipherSuite) → is_number (cipher_number suite) ap_req.ticket.0.0.enc_part.0.etype.0 ≡ true → (part : EncTicketPartInner)
        → OpensTo {T = EncTicketPartInner} enc_ticket_part_tree (ticket_under suite key ap_req.ticket.0.0.enc_part.0.cipher.0) part → part.key.0.key_value.0 ≡ credential.key
    unfolding ticket_part
    of_session suite numbered part opens =
        ap (λ (p : EncTicketPartInner). p.key.0.key_value.0)
        (one_opened {T = EncTicketPartInner} enc_ticket_part_tree enc_ticket_part-injective (ticket_under suite key ap_req.ticket.0.0.enc_part.0.cipher.0)
        (ticket_under by.account.suite by.account.key by.granted.replied.ticket_data.cipher.0) (of_ticket suite numbered) part (ticket_part by.grant) opens
        (granted_opens rows by.exchange by.grant by.account by.granted))
        ∙ sym by.session

    -- and its authenticator is the client's
    of_suite : (suite : CipherSuite) → is_number (cipher_number suite) ap_req.authenticator.0.etype.0 ≡ true → suite ≡ credential.suite
    of_suite suite numbered = suite_of_number suite credential.suite ap_req.authenticator.0.etype.0 numbered (ap (λ (r : ApReqInner). r.authenticator.0.etype.0) same)

    of_cipher : ap_req.authenticator.0.cipher.0 ≡ asks.part.cipher.0
    of_cipher = ap (λ (r : ApReqInner). r.authenticator.0.cipher.0) same ∙ sym (ap (λ (d : EncryptedData). d.cipher.0) asks.sealed.told)

-- ---- what the service opens

module _ (rows : PkinitRows) (exchanges : List ExchangeRecord) (sent : SentRecord) (entry : EntryRecord) (message : Bytes) (h : IsServiceHonest rows exchanges sent entry message) where
  abbrev credential : CredentialRecord
  credential = h.request.credential

  abbrev asks : IsApRequest credential 11 h.request.mutual_required h.request.authenticator h.request.confounder h.request.bytes
  asks = h.is_sent.presents

  module _ (choice : Choice) (shown : Presents entry.key choice message) where
    abbrev ap_req : ApReqInner
    ap_req = request_of choice.outer shown.part_cipher shown.cipher

    same : ap_req ≡ own_request rows exchanges entry.key credential h.by 11 h.request.mutual_required h.request.authenticator h.request.confounder h.request.bytes asks
    same =
        sole_ap_req h.request.bytes ap_req (own_request rows exchanges entry.key credential h.by 11 h.request.mutual_required h.request.authenticator h.request.confounder h.request.bytes asks)
        (subst (λ b. IsApReq b ap_req) h.bytes shown.writes)
        (read_so rows exchanges entry.key credential h.by 11 h.request.mutual_required h.request.authenticator h.request.confounder h.request.bytes asks)

    made : (c : CiphertextRecord) → (c ≡ ticket_under shown.part.suite entry.key shown.part_cipher) ⊎ (c ≡ authenticator_under shown.authenticator.suite choice.part.key.0.key_value.0 shown.cipher) → IsMade rows exchanges sent c
    made c (inl e) =
        let ticket = of_ticket rows exchanges entry.key credential h.by 11 h.request.mutual_required h.request.authenticator h.request.confounder h.request.bytes asks ap_req same shown.part.suite shown.part.numbered in
        inl (h.by.exchange, h.by.among, record { grant = h.by.grant; service = h.by.account; granted = h.by.granted; is = e ∙ ticket })
    made c (inr e) =
        let suites = of_suite rows exchanges entry.key credential h.by 11 h.request.mutual_required h.request.authenticator h.request.confounder h.request.bytes asks ap_req same shown.authenticator.suite shown.authenticator.numbered in
        let session = of_session rows exchanges entry.key credential h.by 11 h.request.mutual_required h.request.authenticator h.request.confounder h.request.bytes asks ap_req same shown.part.suite shown.part.numbered choice.part (shown_opens entry.key choice message shown) in
        let cipher = of_cipher rows exchanges entry.key credential h.by 11 h.request.mutual_required h.request.authenticator h.request.confounder h.request.bytes asks ap_req same in
        let own : authenticator_under shown.authenticator.suite choice.part.key.0.key_value.0 shown.cipher ≡ authenticator_under credential.suite credential.key h.is_sent.presents.part.cipher.0 =
        λ i. authenticator_under (suites i) (session i) (cipher i) in
        inr (inr (inr (inl (h.request, h.among, record { sent = h.is_sent; is = e ∙ own }))))

  pub service_unforged : (keys : List Bytes) → IsUnforged rows keys exchanges sent (ServiceOpens entry message)
  service_unforged keys c (choice, shown, which) kept = made choice shown c which

-- ---- what the realm opens of a request for a first ticket

module _ (rows : PkinitRows) (before : List ExchangeRecord) (sent : SentRecord) (exchange : ExchangeRecord) (h : IsFirstHonest sent exchange) where
  abbrev first : FirstRequest
  first = h.request

  abbrev body : KdcReqBody
  body = as_body_with first.client first.suites first.options first.service first.till first.words

  abbrev own_data : EncryptedData
  own_data = h.is_sent.shown.encrypted_timestamp

  abbrev own_first : KdcReq
  own_first = as_request_of (pa_data_of 2 (encrypted_bytes own_data)) body

  read_first : IsAsReq exchange.request own_first
  read_first =
      as_request_with_written (pa_data_of 2 (encrypted_bytes own_data)) first.client first.suites first.options first.service first.till first.words exchange.request (realm_text first.client.realm h.named.realm)
      (component_texts first.client.components h.named.name) (component_texts first.service h.service_named)
      (h.bytes ∙ h.is_sent.encoding ∙ ap (λ padata. as_request_bytes (as_request_of padata body)) h.is_sent.shown.made)

  timestamp_made : (c : CiphertextRecord) → OpensTimestamp exchange c → IsMade rows before sent c
  timestamp_made c t =
      let same = sole_as_req exchange.request t.asked own_first t.read read_first in
      let name = same_name t.name (principal_name 1 first.client.components) (sym t.named ∙ ap (λ (q : KdcReq). client_of q.req_body.0) same) in
      let account = same_account t.account h.account (sym t.found ∙ ap (λ (n : PrincipalName). exchange.call.look (components n)) name ∙ h.found) in
      let value = same_bytes t.value (encrypted_bytes own_data) (sym t.first ∙ ap (λ (q : KdcReq). first_of 2 (padata_in q)) same ∙ own_timestamp (encrypted_bytes own_data)) in
      let writes = writes_encrypted own_data in
      let sealed = encrypted_data-injective t.opens.sealed own_data t.opens.writes.0 writes.0 (sym t.opens.writes.1 ∙ value ∙ writes.1) in
      let suites = ap (λ (a : AccountRecord). a.suite) account ∙ h.suite in
      let keys = ap (λ (a : AccountRecord). a.key) account ∙ h.key in
      let own : timestamp_under t.account.suite t.account.key t.opens.sealed.cipher.0 ≡ timestamp_under first.key.suite first.key.bytes own_data.cipher.0 =
      λ i. timestamp_under (suites i) (keys i) (sealed i).cipher.0 in
      inr (inl (first, h.among, record { sent = h.is_sent; is = t.is ∙ own }))

  first_unforged : (keys : List Bytes) → IsUnforged rows keys before sent (RealmOpens exchange)
  first_unforged keys c (inl t) kept = timestamp_made c t
  first_unforged keys c (inr (inl t)) kept = absurd (as_or_tgs exchange.request own_first t.asked read_first t.read)
  first_unforged keys c (inr (inr t)) kept = absurd (as_or_tgs exchange.request own_first t.asked read_first t.read)

-- ---- and of a request for a further one

module _ (rows : PkinitRows) (before : List ExchangeRecord) (sent : SentRecord) (exchange : ExchangeRecord) (h : IsFurtherHonest rows before sent exchange) where
  abbrev further : FurtherRequest
  further = h.request

  abbrev shown_bytes : Bytes
  shown_bytes = h.is_sent.asks.request

  abbrev further_confounder : Bytes
  further_confounder = authenticator_confounder (cipher_confounder_size further.credential.suite) further.words

  abbrev further_asks : IsApRequest further.credential 7 false h.is_sent.asks.authenticates.authenticator further_confounder shown_bytes
  further_asks = h.is_sent.asks.authenticates.presents

  abbrev own_further : KdcReq
  own_further = further_request_with further.client further.suites further.options further.service further.till (nonce_of further.words) shown_bytes

  -- the key for which the ticket was encrypted
  abbrev own_key : Bytes
  own_key = (chosen further.credential.ticket.enc_part.0 h.granting).key

  abbrev own_shown : ApReqInner
  own_shown = own_request rows before own_key further.credential h.by 7 false h.is_sent.asks.authenticates.authenticator further_confounder shown_bytes further_asks

  read_further : IsTgsReq exchange.request own_further
  read_further =
      tgs_request_with_written further.client further.suites further.options further.service further.till (nonce_of further.words) shown_bytes exchange.request (realm_text further.client.realm h.is_sent.named.realm)
      (component_texts further.service h.service_named) (h.bytes ∙ h.is_sent.asks.encoding)

  -- the AP-REQ that it carries, and the account of the ticket-granting service
  carries : (asked : KdcReq) (ap_req : ApReqInner) (part : EncTicketPartInner) → IsTgsReq exchange.request asked → (by : IsByTicket exchange.call asked ap_req part)
      → (ap_req ≡ own_shown) × (by.granting ≡ h.granting)
  carries asked ap_req part is by =
      let same = sole_tgs_req exchange.request asked own_further is read_further in
      let value = same_bytes by.value shown_bytes (sym by.first ∙ ap (λ (q : KdcReq). first_of 1 (padata_in q)) same ∙ own_ap_req shown_bytes) in (
        sole_ap_req shown_bytes ap_req own_shown (subst (λ v. IsApReq v ap_req) value by.read)
            (read_so rows before own_key further.credential h.by 7 false h.is_sent.asks.authenticates.authenticator further_confounder shown_bytes further_asks),
        same_account by.granting h.granting (sym by.account ∙ h.found),
      )

  -- it is the key that the realm opens it by
  same_key : (ap_req : ApReqInner) (granting : AccountRecord) → ap_req ≡ own_shown → granting ≡ h.granting → (chosen ap_req.ticket.0.0.enc_part.0 granting).key ≡ own_key
  unfolding ticket_of
  same_key ap_req granting same account =
      let sealed : ap_req.ticket.0.0.enc_part.0 ≡ further.credential.ticket.enc_part.0 =
      ap (λ (r : ApReqInner). r.ticket.0.0.enc_part.0) same ∙ sym h.by.granted.replied.ticket_sealed.told ∙ sym (ap (λ (t : TicketInner). t.enc_part.0) h.by.ticket) in
      λ i. (chosen (sealed i) (account i)).key

  ticket_made : (c : CiphertextRecord) → OpensTicket exchange c → IsMade rows before sent c
  ticket_made c t =
      let same = carries t.asked t.ap_req t.part t.read t.by in
      let keys = same_key t.ap_req t.by.granting same.0 same.1 in
      let opening : AccountKeyRecord = chosen t.ap_req.ticket.0.0.enc_part.0 t.by.granting in
      let cipher : Bytes = t.ap_req.ticket.0.0.enc_part.0.cipher.0 in
      let own : ticket_under opening.suite opening.key cipher ≡ ticket_under opening.suite own_key cipher = λ i. ticket_under opening.suite (keys i) cipher in
      let ticket = of_ticket rows before own_key further.credential h.by 7 false h.is_sent.asks.authenticates.authenticator further_confounder shown_bytes further_asks t.ap_req same.0 opening.suite t.by.opens.numbered in
      inl (h.by.exchange, h.by.among, record { grant = h.by.grant; service = h.by.account; granted = h.by.granted; is = t.is ∙ own ∙ ticket })

  authenticator_made : (c : CiphertextRecord) → OpensAuthenticator exchange c → IsMade rows before sent c
  authenticator_made c t =
      let same = carries t.asked t.ap_req t.part t.read t.by in
      let keys = same_key t.ap_req t.by.granting same.0 same.1 in
      let opening : AccountKeyRecord = chosen t.ap_req.ticket.0.0.enc_part.0 t.by.granting in
      let cipher : Bytes = t.ap_req.ticket.0.0.enc_part.0.cipher.0 in
      let opens = subst (λ k. OpensTo {T = EncTicketPartInner} enc_ticket_part_tree (ticket_under opening.suite k cipher) t.part) keys t.by.opens.opens in
      let session = of_session rows before own_key further.credential h.by 7 false h.is_sent.asks.authenticates.authenticator further_confounder shown_bytes further_asks t.ap_req same.0 opening.suite t.by.opens.numbered t.part opens in
      let suites = of_suite rows before own_key further.credential h.by 7 false h.is_sent.asks.authenticates.authenticator further_confounder shown_bytes further_asks t.ap_req same.0 t.suite t.opens.numbered in
      let ciphers = of_cipher rows before own_key further.credential h.by 7 false h.is_sent.asks.authenticates.authenticator further_confounder shown_bytes further_asks t.ap_req same.0 in
      let own : granting_under t.suite t.part.key.0.key_value.0 t.ap_req.authenticator.0.cipher.0 ≡ granting_under further.credential.suite further.credential.key further_asks.part.cipher.0 =
      λ i. granting_under (suites i) (session i) (ciphers i) in
      inr (inr (inl (further, h.among, record { sent = h.is_sent; is = t.is ∙ own })))

  further_unforged : (keys : List Bytes) → IsUnforged rows keys before sent (RealmOpens exchange)
  further_unforged keys c (inl t) kept = absurd (as_or_tgs exchange.request t.asked own_further t.read read_further)
  further_unforged keys c (inr (inl t)) kept = ticket_made c t
  further_unforged keys c (inr (inr t)) kept = authenticator_made c t

-- ---- a whole run

honest_exchange : (rows : PkinitRows) (keys : List Bytes) (before : List ExchangeRecord) (sent : SentRecord) (exchange : ExchangeRecord)
    → IsFirstHonest sent exchange ⊎ IsFurtherHonest rows before sent exchange → IsUnforged rows keys before sent (RealmOpens exchange)
honest_exchange rows keys before sent exchange (inl h) = first_unforged rows before sent exchange h keys
honest_exchange rows keys before sent exchange (inr h) = further_unforged rows before sent exchange h keys

pub realm_unforged : (rows : PkinitRows) (sent : SentRecord) (exchanges : List ExchangeRecord) → AreHonest rows sent exchanges → (keys : List Bytes) → AreUnforged rows keys sent exchanges
realm_unforged rows sent [] honest keys = tt
realm_unforged rows sent (exchange ∷ before) honest keys = (honest_exchange rows keys before sent exchange honest.0, realm_unforged rows sent before honest.1 keys)
