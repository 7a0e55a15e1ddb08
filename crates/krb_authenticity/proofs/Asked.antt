-- A client made the request that a service admitted.
use Rattle.std.proofs.Common.{◌≡◌, ℕ, ◌/◌, ◌%◌, Bool, true, false, List, ◌∷◌, Option, None, Ok, refl, sym, ap, subst, ◌∙◌, inr}
use Rattle.std.proofs.lemmas.Bool.{and_parts}
use Rattle.asn1_leaves.specs.GeneralizedTime.{seconds_of}
use Rattle.asn1_leaves.specs.declared.date.GeneralizedTime.{GeneralizedTime}
use Rattle.picky_asn1.specs.Bytes.{Bytes}
use Rattle.krb_time.specs.Times.{moment_at}
use Rattle.krb_messages.specs.Names.{components, is_same_name, is_same_realm}
use Rattle.krb_messages.specs.declared.data_types.authenticator.AuthenticatorInner.{AuthenticatorInner}
use Rattle.krb_messages.specs.declared.data_types.encryption_key.EncryptionKey.{EncryptionKey}
use Rattle.krb_messages.specs.Messages.{authenticator-injective, authenticator_tree}
use Rattle.krb_kdc_exchanges.specs.Rows.{PkinitRows}
use Rattle.krb_ap_requests.specs.Presents.{Choice, Presents}
use Rattle.krb_client.specs.ApRequest.{AsksAp, presented_subkey}
use Rattle.krb_client.specs.Authenticators.{authenticator_parts_of, authenticator_with}
use Rattle.krb_client.specs.Client.{ClientRecord, CredentialRecord}
use Rattle.krb_client.specs.Messages.{authenticator_bytes}
use Rattle.krb_service.specs.Admissible.{IsAdmissible, chosen_pair}
use Rattle.krb_service.specs.Admission.{AdmissionRecord, TellsOf, checksum_of, seq_number_of, subkey_of}
use Rattle.krb_service.specs.Pair.{PairRecord, is_among}
use Rattle.krb_service.specs.RememberingService.{remembering_by}
use Rattle.krb_service.specs.declared.reply.ReplyFields.{ReplyFields}
use Rattle.krb_ap_requests.specs.Entry.{EntryRecord}
use Rattle.krb_service.specs.Service.{ServiceRecord}
use Rattle.krb_service.proofs.Admitting.{IsAdmittedOf}
use Rattle.krb_logins.proofs.Names.{equal_names, equal_realms}
use Rattle.krb_logins.proofs.Times.{moment_told}
use Rattle.krb_authenticity.specs.Among.{IsAmong}
use Rattle.krb_authenticity.specs.Authentic.{IsAskedFirst, IsOfRequest, pair_of_request}
use Rattle.krb_authenticity.specs.Ciphertexts.{CiphertextRecord, IsApAuthenticatorOf, IsUnforged, ServiceOpens, authenticator_under}
use Rattle.krb_authenticity.specs.Parties.{ExchangeRecord, IsClient, IsOfClient, IsServiceSent, SentRecord, ServiceRequest, service_request_of}
use Rattle.krb_service.proofs.OnceForEver.{service_by}
use Rattle.krb_authenticity.proofs.Admitted.{admitted_by}
use Rattle.krb_authenticity.proofs.Authenticated.{same_some}
use Rattle.krb_authenticity.proofs.Clients.{whole_of_client}
use Rattle.krb_authenticity.proofs.Made.{authenticator_made}
use Rattle.krb_authenticity.proofs.Opened.{OpensTo, one_opened, sealed_to}

-- what a client sealed opens to its authenticator
sent_opens : (request : ServiceRequest) (is : IsServiceSent request)
    → OpensTo {T = AuthenticatorInner} authenticator_tree (authenticator_under request.credential.suite request.credential.key is.presents.part.cipher.0) request.authenticator
unfolding authenticator_bytes
sent_opens request is =
    sealed_to {T = AuthenticatorInner} authenticator_tree request.authenticator request.credential.suite request.credential.key None 11 request.confounder
    (authenticator_bytes request.authenticator) is.presents.part (is.of_client.whole, refl) is.presents.sealed

-- so what was presented is this
same_authenticator : (c : CiphertextRecord) (authenticator : AuthenticatorInner) (request : ServiceRequest) → OpensTo {T = AuthenticatorInner} authenticator_tree c authenticator
    → IsApAuthenticatorOf request c → authenticator ≡ request.authenticator
same_authenticator c authenticator request opens is =
    one_opened {T = AuthenticatorInner} authenticator_tree authenticator-injective c (authenticator_under request.credential.suite request.credential.key is.sent.presents.part.cipher.0) is.is
    authenticator request.authenticator opens (sent_opens request is.sent)

module _ (service : ServiceRecord) (moment : ℕ) (admitted : List PairRecord) (message : List ℕ) (choice : Choice) (x : IsAdmissible service moment admitted choice)
    (shown : Presents service.entry.key choice message) (request : ServiceRequest) (is : IsApAuthenticatorOf request (authenticator_under shown.authenticator.suite choice.part.key.0.key_value.0 shown.cipher)) where
  -- what was presented was opened
  opens : OpensTo {T = AuthenticatorInner} authenticator_tree (authenticator_under shown.authenticator.suite choice.part.key.0.key_value.0 shown.cipher) choice.authenticator
  opens = record { conf = choice.confounder; plain = shown.authenticator.plain; writes = shown.authenticator.writes; sealed = (shown.authenticator.suite, refl, shown.authenticator.sealed) }

  same : choice.authenticator ≡ request.authenticator
  same = same_authenticator (authenticator_under shown.authenticator.suite choice.part.key.0.key_value.0 shown.cipher) choice.authenticator request opens is

  -- its client is the ticket's
  names : (is_same_realm choice.authenticator.crealm.0 choice.part.crealm.0 ≡ true) × (is_same_name (components choice.authenticator.cname.0) (components choice.part.cname.0) ≡ true)
  names =
      and_parts (is_same_realm choice.authenticator.crealm.0 choice.part.crealm.0) (is_same_name (components choice.authenticator.cname.0) (components choice.part.cname.0)) x.acceptable.client

  realm : choice.part.crealm.0 ≡ request.client.realm
  realm = sym (equal_realms choice.authenticator.crealm.0 choice.part.crealm.0 names.0) ∙ ap (λ (a : AuthenticatorInner). a.crealm.0) same
      ∙ is.sent.of_client.realm

  name : components choice.part.cname.0 ≡ request.client.components
  name = sym (equal_names (components choice.authenticator.cname.0) (components choice.part.cname.0) names.1) ∙ ap (λ (a : AuthenticatorInner). components a.cname.0) same
      ∙ is.sent.of_client.name

  -- and its time the request's
  time : x.acceptable.time ≡ request.moment
  time =
      same_some x.acceptable.time request.moment
      (sym x.acceptable.ctime ∙ ap (λ (a : AuthenticatorInner). moment_at (seconds_of a.ctime.0.0) a.cusec.0) same
      ∙ ap (λ micros. moment_at (seconds_of request.authenticator.ctime.0.0) micros) is.sent.of_client.microseconds
      ∙ moment_told request.moment (seconds_of request.authenticator.ctime.0.0) is.sent.of_client.second)

  pair : chosen_pair service moment choice x.acceptable ≡ pair_of_request request
  pair = λ i. record { realm = realm i; components = name i; time = time i }

  of_request : (admission : AdmissionRecord) → TellsOf choice admission → IsOfRequest request admission
  of_request admission tells = record {
    sent = is.sent;
    realm = tells.realm ∙ realm;
    client = ap components tells.client ∙ name;
    session = ap (λ (k : EncryptionKey). k.key_value.0) tells.session ∙ ap (λ (c : CiphertextRecord). c.key) is.is;
    subkey = tells.subkey ∙ ap subkey_of same;
    checksum = tells.checksum ∙ ap checksum_of same;
    seq_number = tells.seq_number ∙ ap seq_number_of same;
  }

  asked_first : (sent : SentRecord) → IsAmong request sent.presented → (admission : AdmissionRecord) → TellsOf choice admission → (after : List PairRecord)
      → after ≡ chosen_pair service moment choice x.acceptable ∷ admitted → IsAskedFirst sent admitted admission after
  asked_first sent among admission tells after remembers = record {
    request = request;
    among = among;
    of_request = of_request admission tells;
    new = subst (λ p. is_among p admitted ≡ false) pair x.first;
    remembered = remembers ∙ ap (λ p. p ∷ admitted) pair;
  }

-- what `Client::ap_request` writes is such a request
own_of_client : (client : ClientRecord) (moment : ℕ) (second : GeneralizedTime) (subkey : Option EncryptionKey) → IsClient client → seconds_of second ≡ moment / 1000000
    → IsOfClient client moment (authenticator_with (authenticator_parts_of client (moment % 1000000)) second None subkey)
own_of_client client moment second subkey named of_moment = record {
  realm = refl;
  name = refl;
  second = of_moment;
  microseconds = refl;
  whole = whole_of_client client (moment % 1000000) second None subkey named;
}

pub ap_request_sent : (client : ClientRecord) (credential : CredentialRecord) (mutual_required with_subkey : Bool) (moment : ℕ) (words bytes : List ℕ) → IsClient client
    → (asks : AsksAp client credential mutual_required with_subkey moment words bytes) → IsServiceSent (service_request_of client credential mutual_required moment words bytes asks.authenticator)
ap_request_sent client credential mutual_required with_subkey moment words bytes named asks = record {
  of_client = subst (λ (a : AuthenticatorInner). IsOfClient client moment a) (sym asks.authenticates.is_made)
      (own_of_client client moment asks.authenticates.second (presented_subkey with_subkey credential.suite words) named asks.authenticates.of_moment);
  presents = asks.presents;
}

pub asked_of : (rows : PkinitRows) (keys : List Bytes) (exchanges : List ExchangeRecord) (sent : SentRecord) (service : ServiceRecord) (moment : ℕ) (admitted : List PairRecord) (message : List ℕ)
    (admission : AdmissionRecord) (after : List PairRecord) → IsUnforged rows keys exchanges sent (ServiceOpens service.entry message) → IsAmong admission.session.key_value.0 keys
    → IsAdmittedOf service moment admitted message admission after → IsAskedFirst sent admitted admission after
asked_of rows keys exchanges sent service moment admitted message admission after unforged kept by =
    let choice : Choice = by.0 in
    let x : IsAdmissible service moment admitted choice = by.1 in
    let shown : Presents service.entry.key choice message = by.2 in
    let tells : TellsOf choice admission = by.3 in
    let session : Bytes = choice.part.key.0.key_value.0 in
    let own_kept = subst (λ (k : EncryptionKey). IsAmong k.key_value.0 keys) tells.session kept in
    let made = authenticator_made rows exchanges sent shown.authenticator.suite session shown.cipher
    (unforged (authenticator_under shown.authenticator.suite session shown.cipher) (choice, shown, inr refl) own_kept) in
    asked_first service moment admitted message choice x shown made.0 made.2 sent made.1 admission tells after by.4

pub client_asked : (rows : PkinitRows) (keys : List Bytes) (exchanges : List ExchangeRecord) (sent : SentRecord) (entry : EntryRecord) (skew : ℕ) (fields : ReplyFields) (moment : ℕ)
    (admitted : List PairRecord) (message words : List ℕ) (admission : AdmissionRecord) (after : List PairRecord) → IsUnforged rows keys exchanges sent (ServiceOpens entry message)
    → IsAmong admission.session.key_value.0 keys → (remembering_by entry skew fields moment admitted message words).gives (Ok admission, after) → IsAskedFirst sent admitted admission after
client_asked rows keys exchanges sent entry skew fields moment admitted message words admission after unforged kept given =
    asked_of rows keys exchanges sent (service_by entry skew) moment admitted message admission after unforged kept
    (admitted_by entry skew fields moment admitted message words admission after given)
