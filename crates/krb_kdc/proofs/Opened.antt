-- Tickets that an account's key opens.
use Rattle.std.proofs.Common.{◌≡◌, ℕ, List, Option, None, Some, Result, Ok, Err, IfOk, sym, subst, inl, inr}
use Rattle.krb_realm_accounts.specs.Account.{AccountKeyRecord, AccountRecord}
use Rattle.krb_realm_accounts.specs.Accounts.{AccountMap, Look, look_in}
use Rattle.krb_ap_requests.specs.ApTable.{enc_part_in, opened_part}
use Rattle.krb_ap_requests.specs.Messages.{IsTicketPart, sole_ticket_part}
use Rattle.krb_crypto.specs.Keys.{KeyRecord}
use Rattle.krb_crypto.specs.declared.suite.CipherSuite.{CipherSuite}
use Rattle.picky_asn1_der.specs.Found.{IsFound}
use Rattle.krb_messages.specs.Messages.{IsApReq, sole_ap_req}
use Rattle.krb_messages.specs.declared.messages.ap_req.ApReqInner.{ApReqInner}
use Rattle.krb_messages.specs.Padata.{first_of}
use Rattle.krb_messages.specs.declared.data_types.enc_ticket_part.EncTicketPartInner.{EncTicketPartInner}
use Rattle.krb_messages.specs.declared.data_types.encrypted_data.EncryptedData.{EncryptedData}
use Rattle.krb_messages.specs.declared.data_types.pa_data.PaData.{PaData}
use Rattle.krb_messages.specs.Names.{components}
use Rattle.krb_kdc_exchanges.specs.ChosenKeys.{OpensTicket, chosen}
use Rattle.krb_kdc.specs.Few.{IsFetched, Knows}
use Rattle.krb_kdc.specs.Tickets.{IsClientFetched, IsTgsReqTicket}

opened : (suite : CipherSuite) (key : List ℕ) (encrypted : EncryptedData) (part : EncTicketPartInner) → (opened_part suite key encrypted).gives (Ok part) → IsTicketPart suite key encrypted part
opened suite key encrypted part (inl (own, is, e)) = let same : own ≡ part = cc (e) in subst (IsTicketPart suite key encrypted) same is
opened suite key encrypted part (inr (none, e)) = absurd (cc (e))

unopened : (suite : CipherSuite) (key : List ℕ) (encrypted : EncryptedData) (code : ℕ) → (opened_part suite key encrypted).gives (Err code) → (part : EncTicketPartInner) → IsTicketPart suite key encrypted part → ⊥
unopened suite key encrypted code (inl (own, is, e)) = absurd (cc (e))
unopened suite key encrypted code (inr (none, e)) = none

module _ (key : KeyRecord) (account : AccountKeyRecord) (given wanted : EncryptedData) (of : key ≡ record { suite = account.suite; bytes = account.key }) (same : given ≡ wanted) where
  by_key : (result : Result EncTicketPartInner ℕ) → (opened_part key.suite key.bytes given).gives result → (opened_part account.suite account.key wanted).gives result
  by_key result x =
      subst (λ encrypted. (opened_part account.suite account.key encrypted).gives result) same
      (subst (λ (k : KeyRecord). (opened_part k.suite k.bytes given).gives result) of x)

  pub opened_by : (part : EncTicketPartInner) → (opened_part key.suite key.bytes given).gives (Ok part) → IsTicketPart account.suite account.key wanted part
  opened_by part x = opened account.suite account.key wanted part (by_key (Ok part) x)

  pub unopened_by : (code : ℕ) → (opened_part key.suite key.bytes given).gives (Err code) → (part : EncTicketPartInner) → IsTicketPart account.suite account.key wanted part → ⊥
  unopened_by code x = unopened account.suite account.key wanted code (by_key (Err code) x)

-- the ticket that padata carry
module _ (few : AccountMap) (granting : List (List ℕ)) (padata : List PaData) (account : AccountRecord) (value : List ℕ) (ap_req : ApReqInner)
    (has : look_in few granting ≡ Some account) (first : first_of 1 padata ≡ Some value) (read : IsApReq value ap_req) where
  same_part : (part : EncTicketPartInner) → IsTgsReqTicket few granting padata part → OpensTicket account (enc_part_in ap_req) part
  same_part part ticket =
      let own : ticket.account ≡ account = cc (ticket.has, has) in
      let carried : ticket.value ≡ value = cc (ticket.first, first) in
      let same : ticket.ap_req ≡ ap_req = sole_ap_req value ticket.ap_req ap_req (subst (λ v. IsApReq v ticket.ap_req) carried ticket.read) read in
      subst (λ (a : AccountRecord). OpensTicket a (enc_part_in ap_req) part) own
      (subst (λ (r : ApReqInner). OpensTicket ticket.account (enc_part_in r) part) same ticket.opens)

  pub ticket_found : {E : Type 0} (result : Result (Option EncTicketPartInner) E) → IfOk result (IsFound (OpensTicket account (enc_part_in ap_req)))
      → IfOk result (IsFound (IsTgsReqTicket few granting padata))
  ticket_found (Ok (Some part)) opens = record { value = value; ap_req = ap_req; account = account; first = first; read = read; has = has; opens = opens }
  ticket_found (Ok None) none = λ part ticket. none part (same_part part ticket)
  ticket_found (Err e) opens = tt

sole_tgs_req_ticket : (few : AccountMap) (granting : List (List ℕ)) (padata : List PaData) (a b : EncTicketPartInner) → IsTgsReqTicket few granting padata a → IsTgsReqTicket few granting padata b → a ≡ b
sole_tgs_req_ticket few granting padata a b x y =
    let own : AccountKeyRecord = chosen (enc_part_in y.ap_req) y.account in
    sole_ticket_part own.suite own.key (enc_part_in y.ap_req) a b (same_part few granting padata y.account y.value y.ap_req y.has y.first y.read a x) y.opens

-- no ticket, and one whose client's account was looked up
pub no_ticket : (all : Look) (granting : List (List ℕ)) (padata given : List PaData) (few : AccountMap) → given ≡ padata
    → ((part : EncTicketPartInner) → IsTgsReqTicket few granting given part → ⊥) → IsClientFetched all granting padata few few
no_ticket all granting padata given few same none = record {
  own = λ own. own;
  known = λ own part ticket. absurd (none part (subst (λ p. IsTgsReqTicket few granting p part) (sym same) ticket));
  kept = λ other knows. knows;
}

pub ticket_fetched : (all : Look) (granting name : List (List ℕ)) (padata given : List PaData) (part : EncTicketPartInner) (old new : AccountMap) → given ≡ padata
    → name ≡ components part.cname.0 → IsTgsReqTicket old granting given part → IsFetched all name old new → IsClientFetched all granting padata old new
ticket_fetched all granting name padata given part old new same is ticket fetched = record {
  own = fetched.own;
  known = λ own other found.
      subst (λ (p : EncTicketPartInner). Knows all new (components p.cname.0))
      (sole_tgs_req_ticket old granting padata part other (subst (λ p. IsTgsReqTicket old granting p part) same ticket) found)
      (subst (Knows all new) is (fetched.known own));
  kept = fetched.kept;
}
