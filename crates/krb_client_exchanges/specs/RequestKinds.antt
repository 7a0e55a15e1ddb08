-- The requests of a client, each as its occasion decides it (RFC 4120, sections 3.1.1, 3.3.1).
use Rattle.std.specs.Prelude.{◌≡◌, false, List, Result, Ok, Err}
use Rattle.picky_asn1.specs.Bytes.{Bytes}
use Rattle.krb_realm_accounts.specs.Names.{are_components}
use Rattle.krb_crypto.specs.declared.suite.CipherSuite.{CipherSuite}
use Rattle.krb_messages.specs.TicketGranting.{krbtgt_of}
use Rattle.krb_client.specs.AsRequest.{AsksAsWith, as_asked, as_body_with}
use Rattle.krb_client.specs.Asked.{AsAskedRecord, TgsAskedRecord}
use Rattle.krb_client.specs.Client.{ClientRecord, CredentialRecord}
use Rattle.krb_client.specs.Means.{MeansRecord}
use Rattle.krb_client.specs.Options.{renewal_options}
use Rattle.krb_client.specs.TgsRequest.{AsksTgsOfSuites, AsksTgsWith, tgs_asked}
use Rattle.krb_client.specs.declared.refusal.AskRefusal.{AskRefusal}
use Rattle.krb_client.specs.declared.refusal.AskRefusal.TheVariants as ask_refusal
use Rattle.krb_client_exchanges.specs.FirstRequests.{first_request_bytes_with}
use Rattle.krb_client_exchanges.specs.Courses.{Course, ◌>>=◌, began, ended, made, sent}
use Rattle.krb_client_exchanges.specs.declared.occasion.Occasion.{Occasion}

-- At an occasion: which octets the request has, why the client may refuse to ask, and what it remembers of the request.
pub record RequestRecord (A : Type 0) : Type 1 where
  pub asks : Occasion → Bytes → Type 0
  pub refuses : Occasion → AskRefusal → Type 0
  pub remembers : Occasion → A

-- The client takes an occasion, makes the request for it, and sends it. What it remembers of the request goes with the reply.
abbrev pub exchange : {F A : Type 0} → RequestRecord A → Course F (A × Bytes)
exchange request = do
  occasion ← began
  octets ← made (request.asks occasion) (request.refuses occasion)
  reply ← sent octets
  ended (request.remembers occasion, reply)

-- The same, with the octets of the request, by which its reply is taken.
abbrev pub kept_exchange : {F A : Type 0} → RequestRecord A → Course F (Bytes × (A × Bytes))
kept_exchange request = do
  occasion ← began
  octets ← made (request.asks occasion) (request.refuses occasion)
  reply ← sent octets
  ended (octets, (request.remembers occasion, reply))

-- What a client remembers of a request for a ticket-granting ticket of its realm.
abbrev pub granting_asked : ClientRecord → Occasion → AsAskedRecord
granting_asked client occasion = as_asked (krbtgt_of client.realm) occasion.moment occasion.words

-- The first AS request lists the suites, has the options of its occasion, and no padata (RFC 4120, section 3.1.1). Nothing keeps a client
-- from making it.
abbrev pub first_as_request : ClientRecord → List CipherSuite → RequestRecord AsAskedRecord
first_as_request client suites = record {
  asks = λ occasion octets. octets ≡ first_request_bytes_with client suites occasion.options (krbtgt_of client.realm) occasion.till occasion.words;
  refuses = λ occasion refusal. ⊥;
  remembers = granting_asked client;
}

-- An AS request with the padata of the client's means lists the suites, and has the options of its occasion (RFC 4120, section 3.1.1). The
-- means may have no padata.
abbrev pub as_request_by : ClientRecord → List CipherSuite → MeansRecord → RequestRecord AsAskedRecord
as_request_by client suites means = record {
  asks = λ occasion octets. AsksAsWith client suites occasion.options means (krbtgt_of client.realm) occasion.till occasion.moment occasion.words octets;
  refuses = λ occasion refusal. (refusal ≡ ask_refusal.NoKeyFunction)
      × means.refuses (as_body_with client suites occasion.options (krbtgt_of client.realm) occasion.till occasion.words) occasion.moment occasion.words;
  remembers = granting_asked client;
}

-- A TGS request by a credential lists the suites, and has no option (RFC 4120, section 3.3.1). The service's name may be none.
abbrev pub tgs_request_by : ClientRecord → List CipherSuite → CredentialRecord → List Bytes → RequestRecord TgsAskedRecord
tgs_request_by client suites credential service = record {
  asks = λ occasion octets. AsksTgsOfSuites client suites credential service occasion.till occasion.moment occasion.words octets;
  refuses = λ occasion refusal. (refusal ≡ ask_refusal.BadName) × (are_components service ≡ false);
  remembers = λ occasion. tgs_asked credential service occasion.words;
}

-- A TGS request to renew a credential's ticket lists the suites, has the options of a renewal, and is for the ticket-granting service (RFC
-- 4120, section 3.3.3). Nothing keeps a client from making it.
abbrev pub renewal_request_by : ClientRecord → List CipherSuite → CredentialRecord → RequestRecord TgsAskedRecord
renewal_request_by client suites credential = record {
  asks = λ occasion octets.
      AsksTgsWith client suites (renewal_options credential.flags) credential (krbtgt_of client.realm) occasion.till occasion.moment occasion.words octets;
  refuses = λ occasion refusal. ⊥;
  remembers = λ occasion. tgs_asked credential (krbtgt_of client.realm) occasion.words;
}

-- What was made at an occasion is such a request with what the client remembers of it, or the refusal is one of the request.
abbrev pub IsMadeAt : {A : Type 0} → RequestRecord A → Occasion → Result (Bytes × A) AskRefusal → Type 0
IsMadeAt request occasion (Ok whole) = request.asks occasion whole.0 × (whole.1 ≡ request.remembers occasion)
IsMadeAt request occasion (Err ask_refusal.Memory) = Unit {0}
IsMadeAt request occasion (Err refusal) = request.refuses occasion refusal
