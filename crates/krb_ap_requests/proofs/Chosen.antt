-- What is received is a choice's that is acceptable: each row of the table is passed.
use Rattle.std.proofs.Common.{◌≡◌, ℕ, Bool, true, false, not, ◌&&◌, List, Option, None, Some, Result, Ok, refl, sym, ap, subst, ◌∙◌, inl, inr, arith}
use Rattle.std.specs.Prelude.{ℤ}
use Rattle.std.specs.Option.{option_map, option_map_or}
use Rattle.picky_asn1_der.specs.declared.wrapper.ExplicitContextTag.{ExplicitContextTag}
use Rattle.picky_asn1.specs.BitString.{bit_of}
use Rattle.asn1_leaves.specs.GeneralizedTime.{seconds_of}
use Rattle.krb_crypto.specs.Suites.{cipher_key_size, cipher_number}
use Rattle.krb_crypto.specs.declared.suite.CipherSuite.{CipherSuite}
use Rattle.krb_crypto.proofs.SealingLemmas.{same_suite}
use Rattle.krb_messages.specs.declared.data_types.authenticator.AuthenticatorInner.{AuthenticatorInner}
use Rattle.krb_messages.specs.declared.data_types.encrypted_data.EncryptedData.{EncryptedData}
use Rattle.krb_messages.specs.declared.data_types.encryption_key.EncryptionKey.{EncryptionKey}
use Rattle.krb_messages.specs.declared.data_types.enc_ticket_part.EncTicketPartInner.{EncTicketPartInner}
use Rattle.krb_messages.specs.declared.messages.ap_req.ApReqInner.{ApReqInner}
use Rattle.krb_tickets.specs.Keys.{suite_of}
use Rattle.krb_messages.specs.Names.{components, is_same_name, is_same_realm}
use Rattle.picky_asn1.specs.Numbers.{is_number}
use Rattle.decision_tables.specs.Tables.{Table, and_then, done, need, refuse}
use Rattle.krb_time.specs.Times.{moment_at}
use Rattle.krb_ap_requests.specs.Acceptable.{IsAcceptable, presented_of}
use Rattle.krb_ap_requests.specs.ApTable.{for_service, ap_fields, authenticated, is_early, is_late, is_of_client, kvno_fits, opened, opened_part, presented, presented_with, timely, authenticator_time, valid_authenticator, valid_part}
use Rattle.krb_ap_requests.specs.Entry.{EntryRecord}
use Rattle.krb_messages.specs.Messages.{IsApReq, authenticator_tree, enc_ticket_part_tree}
use Rattle.krb_ap_requests.specs.Messages.{IsAuthenticator, IsTicketPart}
use Rattle.krb_ap_requests.specs.Presents.{Choice, Presents}
use Rattle.krb_ap_requests.specs.Received.{Receives}
use Rattle.krb_ap_requests.specs.declared.presented.Authenticated.{Authenticated}
use Rattle.krb_ap_requests.specs.declared.presented.Presented.{Presented}
use Rattle.krb_ap_requests.proofs.Presentations.{outer_of}
use Rattle.krb_ap_requests.proofs.Shown.{asked, both, first_of_two, ok_same, past_recipient, request-outer, seals, shown_asked, shown_part, timed, with_time}

-- what a request has that passes the rows of its own fields
record IsPassed (method version ticket kind realm name kvno etype : Bool) : Type 0 where
  method_is : method ≡ false
  version_is : version ≡ true
  ticket_is : ticket ≡ true
  kind_is : kind ≡ true
  realm_is : realm ≡ true
  name_is : name ≡ true
  kvno_is : kvno ≡ true
  etype_is : etype ≡ true

fields_passed : (version ticket kind realm name kvno : Bool)
    → (refuse {T = Unit {0}} {E = ℕ} (not (version && ticket)) 39 (refuse (not kind) 40 (refuse (not (realm && name)) 35 (refuse (not kvno) 44 (done (Ok tt)))))).gives (Ok tt)
    → (version ≡ true) × (ticket ≡ true) × (kind ≡ true) × (realm ≡ true) × (name ≡ true) × (kvno ≡ true)
fields_passed false ticket kind realm name kvno x = absurd (cc (x))
fields_passed true false kind realm name kvno x = absurd (cc (x))
fields_passed true true false realm name kvno x = absurd (cc (x))
fields_passed true true true false name kvno x = absurd (cc (x))
fields_passed true true true true false kvno x = absurd (cc (x))
fields_passed true true true true true false x = absurd (cc (x))
fields_passed true true true true true true x = (refl, refl, refl, refl, refl, refl)

past_method : (method etype : Bool) (fields : Table (Result (Unit {0}) ℕ))
    → (refuse {T = Unit {0}} {E = ℕ} method 48 (and_then {A = Unit {0}} fields (λ _. refuse (not etype) 45 (done (Ok tt))))).gives (Ok tt)
    → (method ≡ false) × fields.gives (Ok tt) × (etype ≡ true)
past_method true etype fields x = absurd (cc (x))
past_method false false fields (inl x) = absurd (cc (x.2))
past_method false true fields (inl x) = (refl, x.1, refl)
past_method false etype fields (inr x) = absurd (cc (x.2))

passed : (realm : List ℕ) (name : List (List ℕ)) (suite : CipherSuite) (kvno : ℕ) (request : ApReqInner) → (for_service realm name suite kvno request).gives (Ok tt)
    → IsPassed (bit_of request.ap_options.0 1) (is_number 5 request.pvno.0) (is_number 5 request.ticket.0.0.tkt_vno.0) (is_number 14 request.msg_type.0)
    (is_same_realm request.ticket.0.0.realm.0 realm) (is_same_name (components request.ticket.0.0.sname.0) name)
    (kvno_fits kvno request.ticket.0.0.enc_part.0) (is_number (cipher_number suite) request.ticket.0.0.enc_part.0.etype.0)
passed realm name suite kvno request x =
    let outer = past_method (bit_of request.ap_options.0 1) (is_number (cipher_number suite) request.ticket.0.0.enc_part.0.etype.0) (ap_fields realm name kvno request) x in
    let fields = fields_passed (is_number 5 request.pvno.0) (is_number 5 request.ticket.0.0.tkt_vno.0) (is_number 14 request.msg_type.0)
    (is_same_realm request.ticket.0.0.realm.0 realm) (is_same_name (components request.ticket.0.0.sname.0) name)
    (kvno_fits kvno request.ticket.0.0.enc_part.0) outer.1 in
    record {
      method_is = outer.0;
      version_is = fields.0;
      ticket_is = fields.1;
      kind_is = fields.2;
      realm_is = fields.3;
      name_is = fields.4;
      kvno_is = fields.5;
      etype_is = outer.2;
    }

on_time : (early late : Bool) → (refuse {T = Unit {0}} {E = ℕ} early 33 (refuse late 32 (done (Ok tt)))).gives (Ok tt) → (early ≡ false) × (late ≡ false)
on_time true late x = absurd (cc (x))
on_time false true x = absurd (cc (x))
on_time false false x = (refl, refl)

told_so : (version client : Bool) (moment : Option ℕ) (time : ℕ)
    → (refuse {T = ℕ} {E = ℕ} (not version) 39 (refuse (not client) 36 (need moment 41 (λ (found : ℕ). done (Ok found))))).gives (Ok time)
    → (version ≡ true) × (client ≡ true) × (moment ≡ Some time)
told_so false client moment time x = absurd (cc (x))
told_so true false moment time x = absurd (cc (x))
told_so true true None time x = absurd (cc (x))
told_so true true (Some found) time x = (refl, refl, ap Some (sym (ok_same time found x)))

-- past a row that needs a value
pub needed : {A T : Type 0} (option : Option A) (code : ℕ) (rest : A → Table (Result T ℕ)) (value : T) → (need {A = A} {T = T} option code rest).gives (Ok value)
    → (a : A) × (option ≡ Some a) × (rest a).gives (Ok value)
needed None code rest value x = absurd (cc (x))
needed (Some a) code rest value x = (a, refl, x)

-- a kvno by its tagged form
number_under : (number : ℕ) (kvno : Option (ExplicitContextTag 1 ℤ))
    → option_map_or (is_number number) (option_map (λ (tagged : ExplicitContextTag 1 ℤ). tagged.0) kvno) true
    ≡ option_map_or (λ (tagged : ExplicitContextTag 1 ℤ). is_number number tagged.0) kvno true
number_under number None = refl
number_under number (Some tagged) = refl

-- what a ticket's part has that counts
record IsValidSo (suite : CipherSuite) (key : List ℕ) (skew moment : ℕ) (sealed : EncryptedData) (part : EncTicketPartInner) : Type 0 where
  found : IsTicketPart suite key sealed part
  started : is_early skew moment part ≡ false
  lasts : is_late skew moment part ≡ false

valid_so : (suite : CipherSuite) (key : List ℕ) (skew moment : ℕ) (sealed : EncryptedData) (part : EncTicketPartInner)
    → (valid_part suite key skew moment sealed).gives (Ok part) → IsValidSo suite key skew moment sealed part
valid_so suite key skew moment sealed part x =
    let end : EncTicketPartInner → Table (Result EncTicketPartInner ℕ) = λ q. and_then {A = Unit {0}} (timely skew moment q) (λ _. done (Ok q)) in
    let own = both (opened_part suite key sealed) end part x in
    let kept = both {A = Unit {0}} (timely skew moment own.0) (λ _. done (Ok own.0)) part own.2 in
    let same : part ≡ own.0 = ok_same part own.0 kept.2 in
    let times = on_time (is_early skew moment own.0) (is_late skew moment own.0) kept.1 in
    subst (λ (q : EncTicketPartInner). IsValidSo suite key skew moment sealed q) (sym same)
    (record { found = shown_part suite key sealed own.0 own.1; started = times.0; lasts = times.1 })

session_suite : (key : EncryptionKey) (usage : ℕ) (sealed : EncryptedData) (found : CipherSuite × AuthenticatorInner) → (opened key usage sealed).gives (Ok found)
    → (suite_of key ≡ Some found.0) × IsAuthenticator found.0 key.key_value.0 usage sealed found.1
session_suite key usage sealed found x =
    let by = needed (suite_of key) 31 (asked key usage sealed) found x in
    let own = first_of_two found 31 by.2 in
    let mine : CipherSuite × AuthenticatorInner = (by.0, own.0) in
    let same : found ≡ mine = ok_same found mine own.2 in
    (subst (λ (f : CipherSuite × AuthenticatorInner). suite_of key ≡ Some f.0) (sym same) by.1, shown_asked key usage sealed by.0 found by.2)

-- what an authenticator has that was opened
pub record IsAuthenticatedSo (usage : ℕ) (part : EncTicketPartInner) (sealed : EncryptedData) (a : Authenticated) : Type 0 where
  pub session : suite_of part.key.0 ≡ Some a.suite
  pub found : IsAuthenticator a.suite part.key.0.key_value.0 usage sealed a.authenticator
  pub version : is_number 5 a.authenticator.authenticator_vno.0 ≡ true
  pub client : is_of_client part a.authenticator ≡ true
  pub moment : moment_at (seconds_of a.authenticator.ctime.0.0) a.authenticator.cusec.0 ≡ Some a.time

pub authenticated_so : (usage : ℕ) (part : EncTicketPartInner) (sealed : EncryptedData) (a : Authenticated) → (authenticated usage part sealed).gives (Ok a)
    → IsAuthenticatedSo usage part sealed a
authenticated_so usage part sealed a x =
    let own = both (opened part.key.0 usage sealed) (timed part) a x in
    let last = both (authenticator_time part own.0.1) (λ time. done (Ok (with_time own.0 time))) a own.2 in
    let found = session_suite part.key.0 usage sealed own.0 own.1 in
    let rows = told_so (is_number 5 own.0.1.authenticator_vno.0) (is_of_client part own.0.1) (moment_at (seconds_of own.0.1.ctime.0.0) own.0.1.cusec.0) last.0 last.1 in
    let same : a ≡ with_time own.0 last.0 = ok_same a (with_time own.0 last.0) last.2 in
    subst (λ (b : Authenticated). IsAuthenticatedSo usage part sealed b) (sym same)
    (record { session = found.0; found = found.1; version = rows.0; client = rows.1; moment = rows.2 })

-- an acceptable choice that presents the bytes, and shows this
pub record IsReceivedOf (entry : EntryRecord) (skew moment : ℕ) (message : List ℕ) (p : Presented) : Type 0 where
  pub choice : Choice
  pub presents : Presents entry.key choice message
  pub acceptable : IsAcceptable entry skew moment choice
  pub shown : p ≡ presented_of choice acceptable.suite acceptable.time

chosen_of : (entry : EntryRecord) (skew moment : ℕ) (message : List ℕ) (request : ApReqInner) (part : EncTicketPartInner) (a : Authenticated) (p : Presented) → IsApReq message request
    → (for_service entry.realm entry.components entry.suite entry.kvno request).gives (Ok tt)
    → IsValidSo entry.suite entry.key skew moment request.ticket.0.0.enc_part.0 part
    → IsAuthenticatedSo 11 part request.authenticator.0 a → p ≡ presented_with request part a → IsReceivedOf entry skew moment message p
chosen_of entry skew moment message request part a p read recipient valid x made =
    let rows = passed entry.realm entry.components entry.suite entry.kvno request recipient in
    record {
      choice = record {
        outer = outer_of request;
        part = part;
        part_confounder = valid.found.opens.conf;
        authenticator = a.authenticator;
        confounder = x.found.opens.conf;
      };
      presents = record {
        part_cipher = request.ticket.0.0.enc_part.0.cipher.0;
        cipher = request.authenticator.0.cipher.0;
        writes = subst (λ (r : ApReqInner). IsApReq message r) (sym (request-outer request)) read;
        part = seals enc_ticket_part_tree entry.suite entry.key 2 request.ticket.0.0.enc_part.0 part valid.found;
        authenticator = seals authenticator_tree a.suite part.key.0.key_value.0 11 request.authenticator.0 a.authenticator x.found;
      };
      acceptable = record {
        keyed = valid.found.opens.sealed.2.key_sized ∙ ap cipher_key_size (same_suite valid.found.opens.sealed.0 entry.suite valid.found.opens.sealed.1);
        method = rows.method_is;
        version = rows.version_is;
        ticket_version = rows.ticket_is;
        kind = rows.kind_is;
        realm = rows.realm_is;
        name = rows.name_is;
        kvno = number_under entry.kvno request.ticket.0.0.enc_part.0.kvno.0 ∙ rows.kvno_is;
        part_etype = rows.etype_is;
        started = valid.started;
        lasts = valid.lasts;
        suite = a.suite;
        session = x.session;
        etype = x.found.numbered;
        authenticator_version = x.version;
        client = x.client;
        time = a.time;
        ctime = x.moment;
      };
      shown = made;
    }

pub chosen_as_received : (entry : EntryRecord) (skew moment : ℕ) (message : List ℕ) (request : ApReqInner) (p : Presented) → IsApReq message request
    → (presented entry skew moment request).gives (Ok p) → IsReceivedOf entry skew moment message p
unfolding presented
chosen_as_received entry skew moment message request p read x =
    let sealed = request.ticket.0.0.enc_part.0 in
    let recipient = both {A = Unit {0}} (for_service entry.realm entry.components entry.suite entry.kvno request) (λ _. past_recipient entry skew moment request) p x in
    let ticket = both (valid_part entry.suite entry.key skew moment sealed) (λ part. valid_authenticator request part) p recipient.2 in
    let last = both (authenticated 11 ticket.0 request.authenticator.0) (λ a. done (Ok (presented_with request ticket.0 a))) p ticket.2 in
    let made : p ≡ presented_with request ticket.0 last.0 = ok_same p (presented_with request ticket.0 last.0) last.2 in
    chosen_of entry skew moment message request ticket.0 last.0 p read recipient.1 (valid_so entry.suite entry.key skew moment sealed ticket.0 ticket.1)
    (authenticated_so 11 ticket.0 request.authenticator.0 last.0 last.1) made

-- by the bytes alone
pub received_is_chosen : (entry : EntryRecord) (skew moment : ℕ) (message : List ℕ) (p : Presented) → Receives entry skew moment message (Ok p)
    → (choice : Choice) × Presents entry.key choice message × (x : IsAcceptable entry skew moment choice) × (p ≡ presented_of choice x.suite x.time)
unfolding Receives
received_is_chosen entry skew moment message p x =
    let by = chosen_as_received entry skew moment message x.0 p x.1 x.2 in (by.choice, by.presents, by.acceptable, by.shown)
