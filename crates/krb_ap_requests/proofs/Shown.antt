-- What is found past the rows of the table.
use Rattle.std.proofs.Common.{◌≡◌, ◌⊎◌, ℕ, Bool, true, false, List, Result, Ok, Err, sym, subst, inl, inr}
use Rattle.asn1_der.specs.Tree.{Tree}
use Rattle.picky_asn1.specs.Numbers.{is_number}
use Rattle.krb_crypto.specs.declared.suite.CipherSuite.{CipherSuite}
use Rattle.decision_tables.specs.Tables.{Table, done, ask, refuse, and_then}
use Rattle.krb_tickets.specs.SealedData.{IsSealedIn}
use Rattle.krb_messages.specs.declared.data_types.authenticator.AuthenticatorInner.{AuthenticatorInner}
use Rattle.krb_messages.specs.declared.data_types.encrypted_data.EncryptedData.{EncryptedData}
use Rattle.krb_messages.specs.declared.data_types.encryption_key.EncryptionKey.{EncryptionKey}
use Rattle.krb_messages.specs.declared.data_types.enc_ticket_part.EncTicketPartInner.{EncTicketPartInner}
use Rattle.krb_messages.specs.declared.messages.ap_req.ApReqInner.{ApReqInner}
use Rattle.krb_ap_requests.specs.ApTable.{opened_part, authenticator_time, valid_authenticator, valid_part}
use Rattle.krb_ap_requests.specs.Entry.{EntryRecord}
use Rattle.krb_ap_requests.specs.Messages.{IsAuthenticator, IsTicketPart, sole_authenticator}
use Rattle.krb_ap_requests.specs.Presents.{SealsTo, request_of}
use Rattle.krb_ap_requests.specs.declared.presented.Authenticated.{Authenticated}
use Rattle.krb_ap_requests.specs.declared.presented.Presented.{Presented}
use Rattle.krb_ap_requests.proofs.Presentations.{outer_of, encrypted-kvno_of}

-- two judgements are one
abbrev pub Same : {T : Type 0} → Result T ℕ → Result T ℕ → Type 0
Same r s = r ≡ s

pub ok_same : {T : Type 0} (a b : T) → Same {T = T} (Ok a) (Ok b) → a ≡ b
ok_same a b e = cc (e)

-- past a row that refuses, and past one that needs a value
pub past : {T : Type 0} (case : Bool) (code : ℕ) (rest : Table (Result T ℕ)) (value : T) → (refuse {T = T} case code rest).gives (Ok value) → rest.gives (Ok value)
past true code rest value p = absurd (cc (p))
past false code rest value p = p

-- what is opened is sealed behind a confounder
pub seals : {T : Type 0} (tree : T → Tree) (suite : CipherSuite) (key : List ℕ) (usage : ℕ) (sealed : EncryptedData) (value : T) (x : IsSealedIn {T = T} tree suite key usage sealed value)
    → SealsTo {T = T} tree sealed.etype.0 key usage x.opens.conf value sealed.cipher.0
seals tree suite key usage sealed value x = record {
  suite = x.opens.sealed.0;
  numbered = subst (λ n. is_number n sealed.etype.0 ≡ true) (sym x.opens.sealed.1) x.numbered;
  plain = x.opens.plain;
  writes = x.opens.writes;
  sealed = x.opens.sealed.2;
}

-- a request is made of its outer fields and its ciphertexts
pub request-outer : (request : ApReqInner) → request_of (outer_of request) request.ticket.0.0.enc_part.0.cipher.0 request.authenticator.0.cipher.0 ≡ request
request-outer request = λ i. record {
  pvno = request.pvno;
  msg_type = request.msg_type;
  ap_options = request.ap_options;
  ticket = record {
    0 = record {
      0 = record {
        tkt_vno = request.ticket.0.0.tkt_vno;
        realm = request.ticket.0.0.realm;
        sname = request.ticket.0.0.sname;
        enc_part = record { 0 = encrypted-kvno_of request.ticket.0.0.enc_part.0 i };
      };
    };
  };
  authenticator = record { 0 = encrypted-kvno_of request.authenticator.0 i };
}

-- one of two, of which the second can't be
pub first_of_two : {A N T : Type 0} (value : T) (code : ℕ) → A ⊎ (N × Same {T = T} (Ok value) (Err code)) → A
first_of_two value code (inl x) = x
first_of_two value code (inr x) = absurd (cc (x.1))

-- both parts of a table gave a value
pub both : {A T : Type 0} (t : Table (Result A ℕ)) (rest : A → Table (Result T ℕ)) (value : T) → (and_then {A = A} {T = T} t rest).gives (Ok value)
    → (a : A) × t.gives (Ok a) × (rest a).gives (Ok value)
both t rest value (inl x) = x
both t rest value (inr x) = absurd (cc (x.2))

-- the part is sealed under the service's key
pub shown_part : (suite : CipherSuite) (key : List ℕ) (sealed : EncryptedData) (part : EncTicketPartInner) → (opened_part suite key sealed).gives (Ok part) → IsTicketPart suite key sealed part
shown_part suite key sealed part x =
    let own = first_of_two part 31 x in
    let same : part ≡ own.0 = ok_same part own.0 own.2 in
    subst (λ p. IsTicketPart suite key sealed p) (sym same) own.1

-- the authenticator is sealed under the key
abbrev pub asked : EncryptionKey → ℕ → EncryptedData → CipherSuite → Table (Result (CipherSuite × AuthenticatorInner) ℕ)
asked key usage sealed suite =
    ask (IsAuthenticator suite key.key_value.0 usage sealed) (sole_authenticator suite key.key_value.0 usage sealed) (done (Err 31)) (λ authenticator. done (Ok (suite, authenticator)))

pub shown_asked : (key : EncryptionKey) (usage : ℕ) (sealed : EncryptedData) (suite : CipherSuite) (found : CipherSuite × AuthenticatorInner) → (asked key usage sealed suite).gives (Ok found)
    → IsAuthenticator found.0 key.key_value.0 usage sealed found.1
shown_asked key usage sealed suite found x =
    let own = first_of_two found 31 x in
    let mine : CipherSuite × AuthenticatorInner = (suite, own.0) in
    let same : found ≡ mine = ok_same found mine own.2 in
    subst (λ (f : CipherSuite × AuthenticatorInner). IsAuthenticator f.0 key.key_value.0 usage sealed f.1) (sym same) own.1

-- what was opened with the moment that it tells
abbrev pub with_time : CipherSuite × AuthenticatorInner → ℕ → Authenticated
with_time found time = record { suite = found.0; authenticator = found.1; time = time }

abbrev pub timed : EncTicketPartInner → CipherSuite × AuthenticatorInner → Table (Result Authenticated ℕ)
timed part found = and_then (authenticator_time part found.1) (λ time. done (Ok (with_time found time)))

abbrev pub past_recipient : EntryRecord → ℕ → ℕ → ApReqInner → Table (Result Presented ℕ)
past_recipient entry skew moment request =
    and_then (valid_part entry.suite entry.key skew moment request.ticket.0.0.enc_part.0) (λ part.
    valid_authenticator request part)
