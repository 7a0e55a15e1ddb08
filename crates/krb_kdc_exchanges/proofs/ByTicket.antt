-- What the parts of the table give is of the ticket that the request comes with.
use Rattle.std.proofs.Common.{◌≡◌, ℕ, Bool, true, false, List, Option, None, Some, Result, Ok, Err, refl, sym, subst, inl, inr}
use Rattle.krb_crypto.specs.declared.suite.CipherSuite.{CipherSuite}
use Rattle.krb_realm_accounts.specs.Account.{AccountKeyRecord, AccountRecord}
use Rattle.krb_messages.specs.declared.data_types.authenticator.AuthenticatorInner.{AuthenticatorInner}
use Rattle.krb_messages.specs.declared.data_types.enc_ticket_part.EncTicketPartInner.{EncTicketPartInner}
use Rattle.krb_messages.specs.declared.data_types.encrypted_data.EncryptedData.{EncryptedData}
use Rattle.krb_messages.specs.declared.data_types.pa_data.PaData.{PaData}
use Rattle.krb_tickets.specs.Keys.{suite_of}
use Rattle.krb_messages.specs.declared.messages.ap_req.ApReqInner.{ApReqInner}
use Rattle.krb_messages.specs.Messages.{IsApReq, sole_ap_req}
use Rattle.decision_tables.specs.Tables.{Table, ask, done, need, refuse}
use Rattle.decision_tables.specs.One.{IsSole}
use Rattle.krb_messages.specs.Padata.{first_of}
use Rattle.krb_ap_requests.specs.ApTable.{authenticated, opened}
use Rattle.krb_ap_requests.specs.Messages.{IsAuthenticator, IsTicketPart, sole_authenticator, sole_ticket_part}
use Rattle.krb_ap_requests.specs.declared.presented.Authenticated.{Authenticated}
use Rattle.krb_kdc_exchanges.specs.Call.{CallRecord, skew_of}
use Rattle.krb_kdc_exchanges.specs.ChosenKeys.{OpensTicket, chosen}
use Rattle.krb_time.specs.Skew.{is_far}
use Rattle.krb_kdc_exchanges.specs.TgsTable.{carried, authenticated_near, granting_by, ticket_granting}

-- a value that was asked for has the property
pub asked_for : {A : Type 0} (P : A → Type 0) (sole : IsSole P) (code : ℕ) (a : A) → (ask {T = Result A ℕ} P sole (done (Err code)) (λ v. done (Ok v))).gives (Ok a) → P a
asked_for P sole code a (inl (v, has, e)) = let same : a ≡ v = cc (e) in subst P (sym same) has
asked_for P sole code a (inr (none, e)) = absurd (cc (e))

-- a part that doesn't refuse was passed
pub passed : {A : Type 0} (case : Bool) (code : ℕ) (rest : Table (Result A ℕ)) (a : A) → (refuse {T = A} case code rest).gives (Ok a) → rest.gives (Ok a)
passed true code rest a x = absurd (cc (x))
passed false code rest a x = x

abbrev read : List ℕ → Table (Result ApReqInner ℕ)
read value = ask (IsApReq value) (sole_ap_req value) (done (Err 41)) (λ v. done (Ok v))

pub by_padata : (padata : List PaData) (ap_req : ApReqInner) → (carried padata).gives (Ok ap_req) → (value : List ℕ) × (first_of 1 padata ≡ Some value) × IsApReq value ap_req
by_padata padata ap_req x = of_padata (first_of 1 padata) refl x
  where
    of_padata : (found : Option (List ℕ)) → first_of 1 padata ≡ found → (need {A = List ℕ} {T = ApReqInner} {E = ℕ} found 16 read).gives (Ok ap_req)
        → (value : List ℕ) × (first_of 1 padata ≡ Some value) × IsApReq value ap_req
    of_padata None e y = absurd (cc (y))
    of_padata (Some value) e y = (value, e, asked_for (IsApReq value) (sole_ap_req value) 41 ap_req y)

by_key : (call : CallRecord) (key : AccountKeyRecord) (ap_req : ApReqInner) (part : EncTicketPartInner) → (granting_by call key ap_req).gives (Ok part)
    → IsTicketPart key.suite key.key ap_req.ticket.0.0.enc_part.0 part
by_key call key ap_req part (inl (_, fields, inl (own, opened, inl (_, counts, e)))) =
    let same : part ≡ own = cc (e) in
    subst (λ p. IsTicketPart key.suite key.key ap_req.ticket.0.0.enc_part.0 p) (sym same)
    (asked_for (IsTicketPart key.suite key.key ap_req.ticket.0.0.enc_part.0) (sole_ticket_part key.suite key.key ap_req.ticket.0.0.enc_part.0) 31 own opened)
by_key call key ap_req part (inl (_, fields, inl (own, opened, inr (code, counts, e)))) = absurd (cc (e))
by_key call key ap_req part (inl (_, fields, inr (code, opened, e))) = absurd (cc (e))
by_key call key ap_req part (inr (code, fields, e)) = absurd (cc (e))

-- it opens under the key of the account that has its kvno
pub by_ticket : (call : CallRecord) (granting : AccountRecord) (ap_req : ApReqInner) (part : EncTicketPartInner) → (ticket_granting call granting ap_req).gives (Ok part)
    → OpensTicket granting ap_req.ticket.0.0.enc_part.0 part
by_ticket call granting ap_req part = by_key call (chosen ap_req.ticket.0.0.enc_part.0 granting) ap_req part

-- the suite is that of the ticket's key, and the authenticator is sealed under it
pub record IsOfKey (ap_req : ApReqInner) (part : EncTicketPartInner) (authenticated : Authenticated) : Type 0 where
  pub suite : suite_of part.key.0 ≡ Some authenticated.suite
  pub opens : IsAuthenticator authenticated.suite part.key.0.key_value.0 7 ap_req.authenticator.0 authenticated.authenticator

abbrev under : List ℕ → EncryptedData → CipherSuite → Table (Result (CipherSuite × AuthenticatorInner) ℕ)
under key sealed suite = ask (IsAuthenticator suite key 7 sealed) (sole_authenticator suite key 7 sealed) (done (Err 31)) (λ authenticator. done (Ok (suite, authenticator)))

of_suite : (key : List ℕ) (sealed : EncryptedData) (found : Option CipherSuite) (pair : CipherSuite × AuthenticatorInner)
    → (need {A = CipherSuite} {T = CipherSuite × AuthenticatorInner} {E = ℕ} found 31 (under key sealed)).gives (Ok pair) → (found ≡ Some pair.0) × IsAuthenticator pair.0 key 7 sealed pair.1
of_suite key sealed None pair y = absurd (cc (y))
of_suite key sealed (Some suite) pair (inl (authenticator, opens, z)) =
    let same : pair ≡ (suite, authenticator) = cc (z) in
    subst (λ (p : CipherSuite × AuthenticatorInner). (Some suite ≡ Some p.0) × IsAuthenticator p.0 key 7 sealed p.1) (sym same) (refl, opens)
of_suite key sealed (Some suite) pair (inr (none, z)) = absurd (cc (z))

of_authenticated : (ap_req : ApReqInner) (part : EncTicketPartInner) (own : Authenticated) → (authenticated 7 part ap_req.authenticator.0).gives (Ok own) → IsOfKey ap_req part own
of_authenticated ap_req part own (inl (pair, opens, inl (time, tells, e))) =
    let same : own ≡ record { suite = pair.0; authenticator = pair.1; time = time } = cc (e) in
    let found = of_suite part.key.0.key_value.0 ap_req.authenticator.0 (suite_of part.key.0) pair opens in
    subst (λ s. IsOfKey ap_req part s) (sym same) (record { suite = found.0; opens = found.1 })
of_authenticated ap_req part own (inl (pair, opens, inr (code, tells, e))) = absurd (cc (e))
of_authenticated ap_req part own (inr (code, opens, e)) = absurd (cc (e))

pub by_authenticator : (call : CallRecord) (part : EncTicketPartInner) (ap_req : ApReqInner) (authenticated : Authenticated) → (authenticated_near call part ap_req).gives (Ok authenticated) → IsOfKey ap_req part authenticated
by_authenticator call part ap_req authenticated (inl (own, x, y)) =
    let near = passed (is_far (skew_of call) call.moment own.time) 37 (done (Ok own)) authenticated y in
    let same : authenticated ≡ own = cc (near) in
    subst (λ s. IsOfKey ap_req part s) (sym same) (of_authenticated ap_req part own x)
by_authenticator call part ap_req authenticated (inr (code, x, e)) = absurd (cc (e))
