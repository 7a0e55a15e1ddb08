-- How a client gets its tickets of a KDC (RFC 4120, sections 3.1, 3.3).
use Rattle.std.specs.Prelude.{Bool, true, false, List, [], ◌∷◌}
use Rattle.decision_tables.specs.Tables.{Table, as_made, done}
use Rattle.picky_asn1.specs.Bytes.{Bytes}
use Rattle.krb_crypto.specs.declared.suite.CipherSuite.{CipherSuite}
use Rattle.krb_file_formats.specs.Entries.{Entry}
use Rattle.krb_client.specs.AsReply.{takes_as_reply}
use Rattle.krb_client.specs.Asked.{AsAskedRecord}
use Rattle.krb_client.specs.Client.{ClientRecord, CredentialRecord}
use Rattle.krb_client.specs.EncryptedTimestamps.{by_key}
use Rattle.krb_client.specs.Means.{MeansRecord}
use Rattle.krb_client.specs.Taking.{Taken}
use Rattle.krb_client.specs.TgsReply.{takes_tgs_reply}
use Rattle.krb_client.specs.declared.by_key.ByKey.{ByKey}
use Rattle.krb_client_exchanges.specs.Grants.{taken_of_suites}
use Rattle.krb_client_exchanges.specs.Suites.{suites_of}
use Rattle.krb_client_exchanges.specs.declared.hint.KeyHint.{KeyHint}
use Rattle.krb_client_exchanges.specs.declared.wanted.Wanted.{Wanted}
use Rattle.krb_client_exchanges.specs.AnswerHints.{hint_in_answer, suite_for}
use Rattle.krb_client_exchanges.specs.Courses.{Course, ◌>>=◌, judged}
use Rattle.krb_client_exchanges.specs.RequestKinds.{as_request_by, exchange, first_as_request, kept_exchange, renewal_request_by, tgs_request_by}
use Rattle.krb_client_exchanges.specs.SharedKeys.{Keyed, keyed_by_keytab, keyed_by_password, some_suites, keytab_suites}
use Rattle.krb_client_exchanges.specs.declared.fault.LoginRefusal.TheVariants.{NotHinted, NotTaken}

-- What is taken of a reply, if its session key is of a suite that was listed (RFC 4120, sections 3.1.3, 3.3.3).
abbrev pub granted : {F : Type 0} → List CipherSuite → Table Taken → Course F CredentialRecord
granted suites taken = judged NotTaken (as_made (taken_of_suites suites) taken)

-- The same, of the reply to an AS request.
abbrev pub granted_first : {F : Type 0} → List CipherSuite → ClientRecord → MeansRecord → AsAskedRecord × Bytes → Course F CredentialRecord
granted_first suites client means first = granted suites (takes_as_reply client means first.0 first.1)

-- The means of a client by its key.
abbrev pub means_of : ByKey → MeansRecord
means_of own = by_key own.key.suite own.key.bytes

-- After an error there is a second request, in the suite of the client's key alone, with an encrypted timestamp (RFC 4120, section 3.1.3).
abbrev pub after_error : {F : Type 0} → List CipherSuite → ClientRecord × ByKey → Course F CredentialRecord
after_error suites own = do
  second ← exchange (as_request_by own.0 (own.0.suite ∷ []) (means_of own.1))
  granted_first suites own.0 (means_of own.1) second

-- A reply is taken under the client's key.
abbrev pub after_hint : {F : Type 0} → List CipherSuite → AsAskedRecord × Bytes → ClientRecord × ByKey → Bool → Course F CredentialRecord
after_hint suites first own true = granted_first suites own.0 (means_of own.1) first
after_hint suites first own false = after_error suites own

-- The answer says of which suite and salt the client's key is, or the login ends.
abbrev pub after_first : {F : Type 0} → List CipherSuite → (KeyHint → Keyed) → AsAskedRecord × Bytes → Course F CredentialRecord
after_first suites keyed first = do
  answer ← judged NotHinted (hint_in_answer suites first.1)
  own ← judged (λ refusal. refusal) (done (keyed answer.hint))
  after_hint suites first own answer.is_reply

-- A login by a key that client and KDC share: the first request lists the suites, and has no padata.
abbrev pub login_by_shared_key : {F : Type 0} → ClientRecord → List CipherSuite → (KeyHint → Keyed) → Course F CredentialRecord
login_by_shared_key client suites keyed = do
  first ← exchange (first_as_request client suites)
  after_first suites keyed first

-- A login by password.
abbrev pub login_by_password : {F : Type 0} → ClientRecord → Wanted → Bytes → Course F CredentialRecord
login_by_password client wanted password = login_by_shared_key client (suites_of wanted) (keyed_by_password client wanted password)

-- A login by the keys of a keytab. Where none is of a wanted suite, nothing is asked.
abbrev pub login_by_keytab : {F : Type 0} → ClientRecord → Wanted → List Entry → Course F CredentialRecord
login_by_keytab client wanted keytab = do
  suites ← judged (λ refusal. refusal) (done (some_suites (keytab_suites client wanted keytab)))
  login_by_shared_key client suites (keyed_by_keytab client keytab)

-- A login by one request with the padata of the client's means, as those of a certificate (RFC 4556, section 3.1). The KDC chooses among
-- the suites.
abbrev pub login_by_means : {F : Type 0} → ClientRecord → List CipherSuite → MeansRecord → Course F CredentialRecord
login_by_means client suites means = do
  first ← exchange (as_request_by client suites means)
  suite ← judged NotHinted (suite_for client.suite suites first.1)
  granted_first suites (record client { suite = suite }) means first

-- The same, where the reply is taken by means that know the octets of the request (RFC 8636, section 6).
abbrev pub login_by_kept_means : {F : Type 0} → ClientRecord → List CipherSuite → (Bytes → MeansRecord) → Course F CredentialRecord
login_by_kept_means client suites means = do
  first ← kept_exchange (as_request_by client suites (means []))
  suite ← judged NotHinted (suite_for client.suite suites first.1.1)
  granted_first suites (record client { suite = suite }) (means first.0) first.1

-- A ticket for a service of the realm, by a credential (RFC 4120, section 3.3).
abbrev pub ticket_for : {F : Type 0} → ClientRecord → List CipherSuite → CredentialRecord → List Bytes → Course F CredentialRecord
ticket_for client suites credential service = do
  further ← exchange (tgs_request_by client suites credential service)
  granted suites (takes_tgs_reply client further.0 further.1)

-- A ticket-granting ticket that is renewed by itself (RFC 4120, section 3.3.3). The reply is taken as that for a service.
abbrev pub renewed_ticket : {F : Type 0} → ClientRecord → List CipherSuite → CredentialRecord → Course F CredentialRecord
renewed_ticket client suites credential = do
  further ← exchange (renewal_request_by client suites credential)
  granted suites (takes_tgs_reply client further.0 further.1)
