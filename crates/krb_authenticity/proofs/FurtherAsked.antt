-- A client asked for the service ticket that a TGS exchange grants.
use Rattle.std.proofs.Common.{◌≡◌, ℕ, ◌%◌, Bool, true, false, not, List, Option, None, Some, Result, Ok, refl, sym, ap, subst, ◌∙◌, inr}
use Rattle.std.proofs.lemmas.Bool.{and_parts}
use Rattle.asn1_leaves.specs.GeneralizedTime.{seconds_of}
use Rattle.asn1_der.specs.Tree.{IsWhole}
use Rattle.picky_asn1.specs.Bytes.{Bytes}
use Rattle.krb_time.specs.Skew.{is_far}
use Rattle.krb_time.specs.Times.{moment_at}
use Rattle.picky_asn1.specs.Numbers.{is_number}
use Rattle.krb_crypto.specs.Sealing.{checksum_of}
use Rattle.krb_crypto.specs.Suites.{checksum_number, cipher_checksum, cipher_confounder_size}
use Rattle.krb_crypto.specs.declared.suite.CipherSuite.{CipherSuite}
use Rattle.krb_messages.specs.Names.{components, is_same_name, is_same_realm}
use Rattle.krb_messages.specs.RandomBytes.{authenticator_confounder}
use Rattle.krb_messages.specs.declared.data_types.authenticator.AuthenticatorInner.{AuthenticatorInner}
use Rattle.krb_messages.specs.declared.data_types.checksum.Checksum.{Checksum}
use Rattle.krb_messages.specs.Messages.{authenticator-injective, authenticator_tree}
use Rattle.krb_messages.specs.Bodies.{body_bytes}
use Rattle.krb_messages.specs.declared.messages.kdc_req_body.KdcReqBody.{KdcReqBody}
use Rattle.krb_realm_accounts.specs.Account.{AccountRecord}
use Rattle.decision_tables.specs.Tables.{Table, done, refuse}
use Rattle.krb_kdc_exchanges.specs.Rows.{PkinitRows}
use Rattle.krb_tickets.specs.Grant.{GrantRecord}
use Rattle.krb_tickets.specs.ReplyKeys.{ReplyKeyRecord}
use Rattle.krb_ap_requests.specs.ApTable.{authenticated}
use Rattle.krb_ap_requests.specs.declared.presented.Authenticated.{Authenticated}
use Rattle.krb_ap_requests.proofs.Chosen.{IsAuthenticatedSo, authenticated_so, needed}
use Rattle.krb_ap_requests.proofs.Shown.{both, ok_same}
use Rattle.krb_kdc_exchanges.specs.Call.{skew_of}
use Rattle.krb_kdc_exchanges.specs.TgsTable.{checksum_in, covered, is_known_checksum, is_of_body}
use Rattle.krb_client.specs.Authenticators.{authenticator_parts_of, authenticator_with}
use Rattle.krb_client.specs.Messages.{authenticator_bytes}
use Rattle.krb_client.specs.TgsRequest.{checksum_over}
use Rattle.krb_service.proofs.Admitting.{passes}
use Rattle.krb_logins.proofs.Names.{equal_names, equal_realms}
use Rattle.krb_logins.proofs.Times.{moment_told}
use Rattle.krb_authenticity.specs.Among.{IsAmong}
use Rattle.krb_authenticity.specs.Authentic.{IsFurtherAsked, body_sent}
use Rattle.krb_authenticity.specs.Ciphertexts.{CiphertextRecord, IsTgsAuthenticatorOf, IsUnforged, RealmOpens, granting_under}
use Rattle.krb_authenticity.specs.Grants.{IsFurther}
use Rattle.krb_authenticity.specs.Parties.{ExchangeRecord, FurtherRequest, IsFurtherSent, SentRecord}
use Rattle.krb_authenticity.proofs.Authenticated.{same_some}
use Rattle.krb_authenticity.proofs.Made.{granting_made}
use Rattle.krb_authenticity.proofs.Opened.{OpensTo, one_opened, sealed_to}
use Rattle.krb_authenticity.proofs.Clients.{whole_of_client}

-- the checksum over the request's body
abbrev sum_of : FurtherRequest → Option Checksum
sum_of request = Some (checksum_over request.credential (body_bytes (body_sent request)))

-- what a client sealed opens to its authenticator
sent_opens : (request : FurtherRequest) (is : IsFurtherSent request)
    → OpensTo {T = AuthenticatorInner} authenticator_tree (granting_under request.credential.suite request.credential.key is.asks.authenticates.presents.part.cipher.0) is.asks.authenticates.authenticator
unfolding authenticator_bytes
sent_opens request is =
    let told = is.asks.authenticates.authenticates in
    let whole = whole_of_client request.client (request.moment % 1000000) told.second (sum_of request) None is.named in
    sealed_to {T = AuthenticatorInner} authenticator_tree is.asks.authenticates.authenticator request.credential.suite request.credential.key None 7
    (authenticator_confounder (cipher_confounder_size request.credential.suite) request.words) (authenticator_bytes is.asks.authenticates.authenticator) is.asks.authenticates.presents.part
    (subst (λ (a : AuthenticatorInner). IsWhole (authenticator_tree a)) (sym told.is_made) whole, refl) is.asks.authenticates.presents.sealed

same_authenticator : (c : CiphertextRecord) (authenticator : AuthenticatorInner) (request : FurtherRequest) → OpensTo {T = AuthenticatorInner} authenticator_tree c authenticator
    → (is : IsTgsAuthenticatorOf request c)
    → authenticator ≡ authenticator_with (authenticator_parts_of request.client (request.moment % 1000000)) is.sent.asks.authenticates.authenticates.second (sum_of request) None
same_authenticator c authenticator request opens is =
    one_opened {T = AuthenticatorInner} authenticator_tree authenticator-injective c (granting_under request.credential.suite request.credential.key is.sent.asks.authenticates.presents.part.cipher.0) is.is
    authenticator is.sent.asks.authenticates.authenticator opens (sent_opens request is.sent) ∙ is.sent.asks.authenticates.authenticates.is_made

-- the checksum covers the body
abbrev checksum_of_body : CipherSuite → Bytes → KdcReqBody → Bytes
checksum_of_body suite key body = checksum_of (cipher_checksum suite) key 6 (body_bytes body)

module _ (suite : CipherSuite) (key : Bytes) (authenticator : AuthenticatorInner) (body : KdcReqBody) where
  abbrev sum_row : Checksum → Table (Result (Unit {0}) ℕ)
  sum_row sum = refuse (not (is_of_body (cipher_checksum suite) key body sum)) 41 (done (Ok tt))

  abbrev kind_row : Checksum → Table (Result (Unit {0}) ℕ)
  kind_row sum = refuse (not (is_number (checksum_number (cipher_checksum suite)) sum.cksumtype.0)) 50 (sum_row sum)

  abbrev known_row : Checksum → Table (Result (Unit {0}) ℕ)
  known_row sum = refuse (not (is_known_checksum sum.cksumtype.0)) 15 (kind_row sum)

  is_so : (b : Bool) → not b ≡ false → b ≡ true
  is_so true e = refl
  is_so false e = sym e

  covered_so : (covered suite key authenticator body).gives (Ok tt) → (sum : Checksum) × (checksum_in authenticator ≡ Some sum) × (sum.checksum.0 ≡ checksum_of_body suite key body)
  covered_so x =
      let a = needed {A = Checksum} {T = Unit {0}} (checksum_in authenticator) 50 known_row tt x in
      let b = passes {T = Unit {0}} (not (is_known_checksum a.0.cksumtype.0)) 15 (kind_row a.0) tt a.2 in
      let c = passes {T = Unit {0}} (not (is_number (checksum_number (cipher_checksum suite)) a.0.cksumtype.0)) 50 (sum_row a.0) tt b.1 in
      let d = passes {T = Unit {0}} (not (is_of_body (cipher_checksum suite) key body a.0)) 41 (done (Ok tt)) tt c.1 in
      (a.0, a.1, equal_realms a.0.checksum.0 (checksum_of_body suite key body) (is_so (is_of_body (cipher_checksum suite) key body a.0) d.0))

same_sum : (a b : Checksum) → Some a ≡ Some b → a ≡ b
same_sum a b e = cc (e)

module _ (exchange : ExchangeRecord) (grant : GrantRecord) (under : ReplyKeyRecord) (service : AccountRecord) (is : IsFurther exchange grant under service) where
  abbrev near_row : Authenticated → Table (Result Authenticated ℕ)
  near_row a = refuse (is_far (skew_of exchange.call) exchange.call.moment a.time) 37 (done (Ok a))

  -- the authenticator that the realm opened is near now
  shown_so : IsAuthenticatedSo 7 is.part is.ap_req.authenticator.0 is.shown × (is_far (skew_of exchange.call) exchange.call.moment is.shown.time ≡ false)
  shown_so =
      let parts = both {A = Authenticated} {T = Authenticated} (authenticated 7 is.part is.ap_req.authenticator.0) near_row is.shown is.authenticates in
      let own = passes {T = Authenticated} (is_far (skew_of exchange.call) exchange.call.moment parts.0.time) 37 (done (Ok parts.0)) is.shown parts.2 in
      let same : is.shown ≡ parts.0 = ok_same is.shown parts.0 own.1 in
      subst (λ (a : Authenticated). IsAuthenticatedSo 7 is.part is.ap_req.authenticator.0 a × (is_far (skew_of exchange.call) exchange.call.moment a.time ≡ false)) (sym same)
      (authenticated_so 7 is.part is.ap_req.authenticator.0 parts.0 parts.1, own.0)

  abbrev session : Bytes
  session = is.part.key.0.key_value.0

  abbrev own : (request : FurtherRequest) → IsTgsAuthenticatorOf request (granting_under is.shown.suite session is.ap_req.authenticator.0.cipher.0) → AuthenticatorInner
  own request made =
      authenticator_with (authenticator_parts_of request.client (request.moment % 1000000)) made.sent.asks.authenticates.authenticates.second (sum_of request) None

  abbrev opened : CiphertextRecord
  opened = granting_under is.shown.suite session is.ap_req.authenticator.0.cipher.0

  -- and the realm compared its checksum with the body that it read
  same_covers : (request : FurtherRequest) → (made : IsTgsAuthenticatorOf request opened) → is.shown.authenticator ≡ own request made
      → (checksum_over request.credential (body_bytes is.asked.req_body.0)).checksum.0 ≡ (checksum_over request.credential (body_bytes (body_sent request))).checksum.0
  same_covers request made same =
      let read = covered_so is.shown.suite session is.shown.authenticator is.asked.req_body.0 is.covers in
      let sum : Checksum = checksum_over request.credential (body_bytes (body_sent request)) in
      let told = same_sum read.0 sum (sym read.1 ∙ ap (λ (a : AuthenticatorInner). checksum_in a) same) in
      ap (λ (c : CiphertextRecord). checksum_of_body c.suite c.key is.asked.req_body.0) (sym made.is) ∙ sym read.2 ∙ ap (λ (s : Checksum). s.checksum.0) told

  of_client : (sent : SentRecord) (request : FurtherRequest) → IsAmong request sent.further → IsTgsAuthenticatorOf request opened → IsFurtherAsked sent exchange grant is.asked
  of_client sent request among made =
      let so = shown_so.0 in
      let same = same_authenticator opened is.shown.authenticator request so.found.opens made in
      let names = and_parts (is_same_realm is.shown.authenticator.crealm.0 is.part.crealm.0) (is_same_name (components is.shown.authenticator.cname.0) (components is.part.cname.0)) so.client in
      let time = same_some is.shown.time request.moment
      (sym so.moment ∙ ap (λ (a : AuthenticatorInner). moment_at (seconds_of a.ctime.0.0) a.cusec.0) same
      ∙ moment_told request.moment (seconds_of made.sent.asks.authenticates.authenticates.second) made.sent.asks.authenticates.authenticates.of_moment) in
      record {
        request = request;
        among = among;
        is_sent = made.sent;
        realm = ap (λ (g : GrantRecord). g.realm) is.grants ∙ sym (equal_realms is.part.crealm.0 exchange.call.realm is.of_realm)
            ∙ sym (equal_realms is.shown.authenticator.crealm.0 is.part.crealm.0 names.0) ∙ ap (λ (a : AuthenticatorInner). a.crealm.0) same;
        client = ap (λ (g : GrantRecord). components g.client) is.grants
            ∙ sym (equal_names (components is.shown.authenticator.cname.0) (components is.part.cname.0) names.1) ∙ ap (λ (a : AuthenticatorInner). components a.cname.0) same;
        near = subst (λ t. is_far (skew_of exchange.call) exchange.call.moment t ≡ false) time shown_so.1;
        covers = same_covers request made same;
      }

pub further_asked : (rows : PkinitRows) (keys : List Bytes) (before : List ExchangeRecord) (sent : SentRecord) (exchange : ExchangeRecord) → IsUnforged rows keys before sent (RealmOpens exchange)
    → (grant : GrantRecord) (under : ReplyKeyRecord) (service : AccountRecord) (is : IsFurther exchange grant under service) → IsAmong is.part.key.0.key_value.0 keys → IsFurtherAsked sent exchange grant is.asked
further_asked rows keys before sent exchange unforged grant under service is kept =
    let so = (shown_so exchange grant under service is).0 in
    let cipher : Bytes = is.ap_req.authenticator.0.cipher.0 in
    let made = granting_made rows before sent is.shown.suite is.part.key.0.key_value.0 cipher
    (unforged (granting_under is.shown.suite is.part.key.0.key_value.0 cipher)
    (inr (inr (record {
      asked = is.asked;
      read = is.read;
      ap_req = is.ap_req;
      part = is.part;
      by = is.ticket;
      suite = is.shown.suite;
      authenticator = is.shown.authenticator;
      opens = so.found;
      is = refl;
    }))) kept) in
    of_client exchange grant under service is sent made.0 made.1 made.2
