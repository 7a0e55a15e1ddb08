-- What the parts of a table give, the table gives.
use Rattle.std.proofs.Common.{◌≡◌, ℕ, List, Result, Ok, Err, ap, refl, sym, subst, inl, inr}
use Rattle.krb_crypto.specs.declared.suite.CipherSuite.{CipherSuite}
use Rattle.krb_messages.specs.declared.data_types.authenticator.AuthenticatorInner.{AuthenticatorInner}
use Rattle.krb_messages.specs.declared.data_types.encrypted_data.EncryptedData.{EncryptedData}
use Rattle.krb_messages.specs.declared.data_types.enc_ticket_part.EncTicketPartInner.{EncTicketPartInner}
use Rattle.krb_messages.specs.declared.messages.ap_req.ApReqInner.{ApReqInner}
use Rattle.krb_messages.specs.Refusals.{IsJudged}
use Rattle.krb_messages.specs.declared.refusal.Refusal.{Refusal}
use Rattle.krb_messages.specs.declared.refusal.Refusal.TheVariants.{Krb, Memory}
use Rattle.krb_ap_requests.specs.ApTable.{for_service, authenticated, opened, opened_part, presented, presented_with, timely, authenticator_time, valid_authenticator, valid_part}
use Rattle.krb_ap_requests.specs.Entry.{EntryRecord}
use Rattle.krb_messages.specs.Messages.{IsApReq}
use Rattle.krb_ap_requests.specs.Received.{Receives}
use Rattle.krb_ap_requests.specs.Refusal.{refused_for}
use Rattle.krb_ap_requests.specs.declared.presented.Authenticated.{Authenticated}
use Rattle.krb_ap_requests.specs.declared.presented.Presented.{Presented}
use Rattle.krb_ap_requests.specs.declared.refusal.AdmitRefusal.TheVariants as admit

-- the request is for this service
abbrev pub IsForService : EntryRecord → ApReqInner → Type 0
IsForService entry request = (for_service entry.realm entry.components entry.suite entry.kvno request).gives (Ok tt)

-- its ticket is judged so
abbrev pub IsTicketJudged : EntryRecord → ℕ → ℕ → ApReqInner → Result EncTicketPartInner Refusal → Type 0
IsTicketJudged entry skew moment request r =
    IsJudged (valid_part entry.suite entry.key skew moment request.ticket.0.0.enc_part.0).gives r

-- a request that is for another service is refused for that
pub recipient_refused : (entry : EntryRecord) (skew moment : ℕ) (request : ApReqInner) (e : Refusal) (names : List (List ℕ)) (suite : CipherSuite) → names ≡ entry.components → suite ≡ entry.suite
    → IsJudged {T = Unit {0}} (for_service entry.realm names suite entry.kvno request).gives (Err e)
    → IsJudged {T = Presented} (presented entry skew moment request).gives (Err e)
unfolding presented
recipient_refused entry skew moment request (Krb code) names suite named keyed recipient =
    let so_named = subst (λ list. (for_service entry.realm list suite entry.kvno request).gives (Err code)) named recipient in
    let own = subst (λ s. (for_service entry.realm entry.components s entry.kvno request).gives (Err code)) keyed so_named in inr (code, own, refl)
recipient_refused entry skew moment request Memory names suite named keyed recipient = tt

pub ticket_refused : (entry : EntryRecord) (skew moment : ℕ) (request : ApReqInner) (e : Refusal)
    → IsForService entry request → IsTicketJudged entry skew moment request (Err e) → IsJudged {T = Presented} (presented entry skew moment request).gives (Err e)
unfolding presented
ticket_refused entry skew moment request (Krb code) recipient ticket = inl (tt, recipient, inr (code, ticket, refl))
ticket_refused entry skew moment request Memory recipient ticket = tt

pub ticket_held : (entry : EntryRecord) (skew moment : ℕ) (request : ApReqInner) (part : EncTicketPartInner) (r : Result Presented Refusal)
    → IsForService entry request → IsTicketJudged entry skew moment request (Ok part)
    → IsJudged {T = Presented} (valid_authenticator request part).gives r → IsJudged {T = Presented} (presented entry skew moment request).gives r
unfolding presented
ticket_held entry skew moment request part (Ok made) recipient ticket shown = inl (tt, recipient, inl (part, ticket, shown))
ticket_held entry skew moment request part (Err (Krb code)) recipient ticket shown = inl (tt, recipient, inl (part, ticket, shown))
ticket_held entry skew moment request part (Err Memory) recipient ticket shown = tt

-- what a request is judged to be is received of its bytes
pub received : (entry : EntryRecord) (skew moment : ℕ) (message : List ℕ) (request : ApReqInner) (p : Presented) → IsApReq message request
    → IsJudged {T = Presented} (presented entry skew moment request).gives (Ok p) → Receives entry skew moment message (Ok p)
unfolding Receives
received entry skew moment message request p found x = (request, found, x)

-- and what it is refused for
pub received_refused : (entry : EntryRecord) (skew moment : ℕ) (message : List ℕ) (request : ApReqInner) (e : Refusal) → IsApReq message request
    → IsJudged {T = Presented} (presented entry skew moment request).gives (Err e) → Receives entry skew moment message (Err (refused_for e))
unfolding Receives
received_refused entry skew moment message request (Krb code) found x = (request, found, x)
received_refused entry skew moment message request Memory found x = tt

-- bytes that no request has
pub received_none : (entry : EntryRecord) (skew moment : ℕ) (message : List ℕ) → ((request : ApReqInner) → IsApReq message request → ⊥)
    → Receives entry skew moment message (Err admit.Unreadable)
unfolding Receives
received_none entry skew moment message none = none

-- where memory runs out nothing is promised
pub received_wanting : (entry : EntryRecord) (skew moment : ℕ) (message : List ℕ) → Receives entry skew moment message (Err admit.Memory)
unfolding Receives
received_wanting entry skew moment bytes = tt

-- a ticket that isn't opened is refused for that, and one whose times are refused for these
pub part_unopened : (suite : CipherSuite) (key : List ℕ) (skew moment : ℕ) (encrypted : EncryptedData) (e : Refusal)
    → IsJudged {T = EncTicketPartInner} (opened_part suite key encrypted).gives (Err e)
    → IsJudged {T = EncTicketPartInner} (valid_part suite key skew moment encrypted).gives (Err e)
part_unopened suite key skew moment encrypted (Krb code) x = inr (code, x, refl)
part_unopened suite key skew moment encrypted Memory x = tt

pub times_refused : (suite : CipherSuite) (key : List ℕ) (skew moment : ℕ) (encrypted : EncryptedData) (part : EncTicketPartInner) (e : Refusal)
    → (opened_part suite key encrypted).gives (Ok part) → IsJudged {T = Unit {0}} (timely skew moment part).gives (Err e)
    → IsJudged {T = EncTicketPartInner} (valid_part suite key skew moment encrypted).gives (Err e)
times_refused suite key skew moment encrypted part (Krb code) found x = inl (part, found, inr (code, x, refl))
times_refused suite key skew moment encrypted part Memory found x = tt

-- and the ticket by what its times are judged to be
pub times_judged : (suite : CipherSuite) (key : List ℕ) (skew moment : ℕ) (encrypted : EncryptedData) (part : EncTicketPartInner) (judged : Result (Unit {0}) Refusal) (r : Result EncTicketPartInner Refusal)
    → (opened_part suite key encrypted).gives (Ok part) → IsJudged {T = Unit {0}} (timely skew moment part).gives judged
    → (judged ≡ Ok tt → r ≡ Ok part) → ((e : Refusal) → judged ≡ Err e → r ≡ Err e)
    → IsJudged {T = EncTicketPartInner} (valid_part suite key skew moment encrypted).gives r
times_judged suite key skew moment encrypted part (Ok tt) r found x passed refused =
    subst (λ (q : Result EncTicketPartInner Refusal). IsJudged {T = EncTicketPartInner} (valid_part suite key skew moment encrypted).gives q) (sym (passed refl)) (inl (part, found, inl (tt, x, refl)))
times_judged suite key skew moment encrypted part (Err e) r found x passed refused =
    subst (λ (q : Result EncTicketPartInner Refusal). IsJudged {T = EncTicketPartInner} (valid_part suite key skew moment encrypted).gives q) (sym (refused e refl)) (times_refused suite key skew moment encrypted part e found x)

-- an authenticator that isn't opened is refused for that
pub unopened : (usage : ℕ) (part : EncTicketPartInner) (sealed : EncryptedData) (e : Refusal)
    → IsJudged {T = CipherSuite × AuthenticatorInner} (opened part.key.0 usage sealed).gives (Err e)
    → IsJudged {T = Authenticated} (authenticated usage part sealed).gives (Err e)
unopened usage part sealed (Krb code) x = inr (code, x, refl)
unopened usage part sealed Memory x = tt

-- and one that tells no such moment for that
pub untold : (usage : ℕ) (part : EncTicketPartInner) (sealed : EncryptedData) (suite : CipherSuite) (authenticator : AuthenticatorInner) (e : Refusal)
    → (opened part.key.0 usage sealed).gives (Ok (suite, authenticator)) → IsJudged {T = ℕ} (authenticator_time part authenticator).gives (Err e)
    → IsJudged {T = Authenticated} (authenticated usage part sealed).gives (Err e)
untold usage part sealed suite authenticator (Krb code) o x = inl ((suite, authenticator), o, inr (code, x, refl))
untold usage part sealed suite authenticator Memory o x = tt

pub told_by : (usage : ℕ) (part : EncTicketPartInner) (sealed : EncryptedData) (suite : CipherSuite) (authenticator : AuthenticatorInner) (time : ℕ)
    → (opened part.key.0 usage sealed).gives (Ok (suite, authenticator)) → (authenticator_time part authenticator).gives (Ok time)
    → (authenticated usage part sealed).gives (Ok (record { suite = suite; authenticator = authenticator; time = time }))
told_by usage part sealed suite authenticator time o t = inl ((suite, authenticator), o, inl (time, t, refl))

-- what is presented is refused with its authenticator, or shown by it
pub authenticator_refused : (request : ApReqInner) (part : EncTicketPartInner) (e : Refusal)
    → IsJudged {T = Authenticated} (authenticated 11 part request.authenticator.0).gives (Err e)
    → IsJudged {T = Presented} (valid_authenticator request part).gives (Err e)
authenticator_refused request part (Krb code) x = inr (code, x, refl)
authenticator_refused request part Memory x = tt

pub authenticator_shown : (request : ApReqInner) (part : EncTicketPartInner) (a : Authenticated) (p : Presented)
    → (authenticated 11 part request.authenticator.0).gives (Ok a) → p ≡ presented_with request part a
    → (valid_authenticator request part).gives (Ok p)
authenticator_shown request part a p x same = inl (a, x, ap (λ (q : Presented). Ok q) same)
