-- Each request has a judgement.
use Rattle.std.proofs.Common.{ℕ, Bool, true, false, not, List, Option, None, Some, Result, Ok, Err}
use Rattle.picky_asn1.specs.BitString.{bit_of}
use Rattle.asn1_leaves.specs.GeneralizedTime.{seconds_of}
use Rattle.krb_crypto.specs.Suites.{cipher_number}
use Rattle.krb_crypto.specs.declared.suite.CipherSuite.{CipherSuite}
use Rattle.krb_messages.specs.declared.data_types.authenticator.AuthenticatorInner.{AuthenticatorInner}
use Rattle.krb_messages.specs.declared.data_types.encrypted_data.EncryptedData.{EncryptedData}
use Rattle.krb_messages.specs.declared.data_types.encryption_key.EncryptionKey.{EncryptionKey}
use Rattle.krb_messages.specs.declared.data_types.enc_ticket_part.EncTicketPartInner.{EncTicketPartInner}
use Rattle.krb_messages.specs.declared.messages.ap_req.ApReqInner.{ApReqInner}
use Rattle.krb_tickets.specs.Keys.{suite_of}
use Rattle.picky_asn1.specs.Numbers.{is_number}
use Rattle.decision_tables.specs.Tables.{Table, and_then, done, need, refuse}
use Rattle.krb_time.specs.Times.{moment_at}
use Rattle.decision_tables.proofs.Outcomes.{HasOutcome, has_asked, has_done, has_needed, has_refused, has_then}
use Rattle.krb_ap_requests.specs.ApTable.{for_service, ap_fields, authenticated, is_early, is_late, is_of_client, opened, opened_part, presented, presented_with, timely, authenticator_time, valid_authenticator, valid_part}
use Rattle.krb_ap_requests.specs.ApTable as rows
use Rattle.krb_ap_requests.specs.Entry.{EntryRecord}
use Rattle.krb_ap_requests.specs.Messages.{IsAuthenticator, IsTicketPart, sole_authenticator, sole_ticket_part}
use Rattle.krb_ap_requests.specs.declared.presented.Authenticated.{Authenticated}
use Rattle.krb_ap_requests.specs.declared.presented.Presented.{Presented}
use Rattle.krb_ap_requests.proofs.Shown.{asked, past_recipient, timed, with_time}

pub has_fields : (a b c d : Bool) → HasOutcome (refuse {T = Unit {0}} {E = ℕ} a 39 (refuse b 40 (refuse c 35 (refuse d 44 (done (Ok tt))))))
has_fields true b c d = has_done (Err 39)
has_fields false true c d = has_done (Err 40)
has_fields false false true d = has_done (Err 35)
has_fields false false false true = has_done (Err 44)
has_fields false false false false = has_done (Ok tt)

has_recipient : (method etype : Bool) (fields : Table (Result (Unit {0}) ℕ)) → HasOutcome fields
    → HasOutcome (refuse {T = Unit {0}} {E = ℕ} method 48 (and_then {A = Unit {0}} fields (λ _. refuse etype 45 (done (Ok tt)))))
has_recipient true etype fields x = has_done (Err 48)
has_recipient false etype fields x =
    let end : Table (Result (Unit {0}) ℕ) = done (Ok tt) in
    has_then {A = Unit {0}} fields (λ _. refuse etype 45 end) x (λ _ _. has_refused etype 45 end (λ _. has_done (Ok tt)))

pub has_times : (early late : Bool) → HasOutcome (refuse {T = Unit {0}} {E = ℕ} early 33 (refuse late 32 (done (Ok tt))))
has_times true late = has_done (Err 33)
has_times false true = has_done (Err 32)
has_times false false = has_done (Ok tt)

has_told : (version client : Bool) (moment : Option ℕ) → HasOutcome (refuse {T = ℕ} {E = ℕ} version 39 (refuse client 36 (need moment 41 (λ (time : ℕ). done (Ok time)))))
has_told true client moment = has_done (Err 39)
has_told false true moment = has_done (Err 36)
has_told false false None = has_done (Err 41)
has_told false false (Some time) = has_done (Ok time)

pub has_opened_part : (suite : CipherSuite) (key : List ℕ) (sealed : EncryptedData) → HasOutcome (opened_part suite key sealed)
has_opened_part suite key sealed =
    let none : Table (Result EncTicketPartInner ℕ) = done (Err 31) in
    has_asked (IsTicketPart suite key sealed) (sole_ticket_part suite key sealed) none (λ part. done (Ok part)) (has_done (Err 31)) (λ part x. has_done (Ok part))

has_part : (suite : CipherSuite) (key : List ℕ) (skew moment : ℕ) (sealed : EncryptedData) → HasOutcome (valid_part suite key skew moment sealed)
has_part suite key skew moment sealed =
    let rest : EncTicketPartInner → Table (Result EncTicketPartInner ℕ) = λ part. and_then {A = Unit {0}} (timely skew moment part) (λ _. done (Ok part)) in
    has_then (opened_part suite key sealed) rest (has_opened_part suite key sealed)
    (λ part x.
    let end : Unit {0} → Table (Result EncTicketPartInner ℕ) = λ _. done (Ok part) in
    has_then {A = Unit {0}} (timely skew moment part) end (has_times (is_early skew moment part) (is_late skew moment part)) (λ _ y. has_done (Ok part)))

has_opened : (key : EncryptionKey) (usage : ℕ) (sealed : EncryptedData) → HasOutcome (opened key usage sealed)
has_opened key usage sealed =
    has_needed (suite_of key) 31 (asked key usage sealed)
    (λ suite e.
    let none : Table (Result (CipherSuite × AuthenticatorInner) ℕ) = done (Err 31) in
    has_asked (IsAuthenticator suite key.key_value.0 usage sealed) (sole_authenticator suite key.key_value.0 usage sealed) none (λ authenticator. done (Ok (suite, authenticator))) (has_done (Err 31))
    (λ authenticator x. has_done (Ok (suite, authenticator))))

pub has_authenticated : (usage : ℕ) (part : EncTicketPartInner) (sealed : EncryptedData) → HasOutcome (authenticated usage part sealed)
has_authenticated usage part sealed =
    has_then (opened part.key.0 usage sealed) (timed part) (has_opened part.key.0 usage sealed)
    (λ found x.
    let end : ℕ → Table (Result Authenticated ℕ) = λ time. done (Ok (with_time found time)) in
    has_then (authenticator_time part found.1) end
    (has_told (not (is_number 5 found.1.authenticator_vno.0)) (not (is_of_client part found.1)) (moment_at (seconds_of found.1.ctime.0.0) found.1.cusec.0))
    (λ time y. has_done (Ok (with_time found time))))

has_authenticator : (request : ApReqInner) (part : EncTicketPartInner) → HasOutcome (valid_authenticator request part)
has_authenticator request part =
    let end : Authenticated → Table (Result Presented ℕ) = λ a. done (Ok (presented_with request part a)) in
    has_then (authenticated 11 part request.authenticator.0) end (has_authenticated 11 part request.authenticator.0) (λ a x. has_done (Ok (presented_with request part a)))

pub has_judgement : (entry : EntryRecord) (skew moment : ℕ) (request : ApReqInner) → HasOutcome (presented entry skew moment request)
unfolding presented
has_judgement entry skew moment request =
    has_then {A = Unit {0}} (for_service entry.realm entry.components entry.suite entry.kvno request) (λ _. past_recipient entry skew moment request)
    (has_recipient (bit_of request.ap_options.0 1) (not (is_number (cipher_number entry.suite) request.ticket.0.0.enc_part.0.etype.0))
    (ap_fields entry.realm entry.components entry.kvno request)
    (has_fields (not (rows.is_version_5 request)) (not (is_number 14 request.msg_type.0))
    (not (rows.is_for entry.realm entry.components request.ticket.0.0)) (not (rows.kvno_fits entry.kvno request.ticket.0.0.enc_part.0))))
    (λ _ x.
    has_then (valid_part entry.suite entry.key skew moment request.ticket.0.0.enc_part.0) (λ part. valid_authenticator request part)
    (has_part entry.suite entry.key skew moment request.ticket.0.0.enc_part.0) (λ part y. has_authenticator request part))
