-- How many requests a course has at most.
use Rattle.std.proofs.Common.{◌≡◌, ◌≤◌, ◌+◌, ℕ, Bool, true, false, List, [], ◌∷◌, ◌++◌, Result, Ok, Err, length, inl, inr, arith, ap, ◌∙◌}
use Rattle.decision_tables.specs.Tables.{Table, done}
use Rattle.picky_asn1.specs.Bytes.{Bytes}
use Rattle.krb_crypto.specs.declared.suite.CipherSuite.{CipherSuite}
use Rattle.krb_file_formats.specs.Entries.{Entry}
use Rattle.krb_client.specs.Asked.{AsAskedRecord}
use Rattle.krb_client.specs.Client.{ClientRecord, CredentialRecord}
use Rattle.krb_client.specs.Means.{MeansRecord}
use Rattle.krb_client.specs.TgsReply.{takes_tgs_reply}
use Rattle.krb_client.specs.declared.by_key.ByKey.{ByKey}
use Rattle.krb_client.specs.declared.refusal.AskRefusal.{AskRefusal}
use Rattle.krb_client_exchanges.specs.declared.hint.KeyHint.{KeyHint}
use Rattle.krb_client_exchanges.specs.declared.wanted.Wanted.{Wanted}
use Rattle.krb_client_exchanges.specs.Suites.{suites_of}
use Rattle.krb_client_exchanges.specs.AnswerHints.{hint_in_answer, suite_for}
use Rattle.krb_client_exchanges.specs.Courses.{Course, ◌>>=◌, began, ended, judged, made, sent}
use Rattle.krb_client_exchanges.specs.Events.{Asked, Began, Event, requests}
use Rattle.krb_client_exchanges.specs.Logins.{after_first, after_hint, granted, granted_first, login_by_keytab, login_by_means, login_by_password, login_by_shared_key, means_of, renewed_ticket, ticket_for}
use Rattle.krb_client_exchanges.specs.RequestKinds.{RequestRecord, as_request_by, exchange, first_as_request, renewal_request_by, tgs_request_by}
use Rattle.krb_client_exchanges.specs.SharedKeys.{Keyed, keyed_by_keytab, keyed_by_password, some_suites, keytab_suites}
use Rattle.krb_client_exchanges.specs.declared.fault.ExchangeFault.{ExchangeFault}
use Rattle.krb_client_exchanges.specs.declared.fault.LoginRefusal.{LoginRefusal}
use Rattle.krb_client_exchanges.specs.declared.fault.LoginRefusal.TheVariants.{NotHinted}

requests-append : {F : Type 0} (front back : List (Event F)) → length (requests (front ++ back)) ≡ length (requests front) + length (requests back)
requests-append [] back = omega arith
requests-append (Began occasion ∷ front) back = requests-append front back
requests-append (Asked request reply ∷ front) back = let rest : length (requests (front ++ back)) ≡ length (requests front) + length (requests back) = requests-append front back in omega (arith, rest)

-- The course has so many requests at most, whatever comes of it.
abbrev pub AtMost : {F A : Type 0} → ℕ → Course F A → Type 0
AtMost most course = (events : List (Event _)) (outcome : Result _ (ExchangeFault _)) → course events outcome → length (requests events) ≤ most

then_most : {F A B : Type 0} (n m : ℕ) (first : Course F A) (rest : A → Course F B) → AtMost n first → ((value : A) → AtMost m (rest value)) → AtMost (n + m) (first >>= rest)
then_most n m first rest few fewer events outcome (inl both) =
    let front : length (requests both.0) ≤ n = few both.0 (Ok both.2) both.4 in
    let back : length (requests both.1) ≤ m = fewer both.2 both.1 outcome both.5 in
    let whole : length (requests events) ≡ length (requests both.0) + length (requests both.1) = ap (λ all. length (requests all)) both.3 ∙ requests-append both.0 both.1 in
    omega (arith, front, back, whole)
then_most n m first rest few fewer events outcome (inr failed) = let all : length (requests events) ≤ n = few events (Err failed.0) failed.1 in omega (arith, all)

none_there : {F : Type 0} (events : List (Event F)) → events ≡ [] → length (requests events) ≤ 0
none_there events none = let count : length (requests events) ≡ 0 = ap (λ all. length (requests all)) none in omega (arith, count)

of_began : {F : Type 0} → AtMost {F = F} 0 began
of_began events outcome goes = let count : length (requests events) ≡ 0 = ap (λ all. length (requests all)) goes.1 in omega (arith, count)

of_sent : {F : Type 0} (request : Bytes) → AtMost {F = F} 1 (sent request)
of_sent request events outcome goes = let count : length (requests events) ≡ 1 = ap (λ all. length (requests all)) goes.1 in omega (arith, count)

of_made : {F : Type 0} (asks : Bytes → Type 0) (refuses : AskRefusal → Type 0) → AtMost {F = F} 0 (made asks refuses)
of_made asks refuses events (Ok octets) goes = none_there events goes.0
of_made asks refuses events (Err fault) goes = none_there events goes.0

of_ended : {F A : Type 0} (value : A) → AtMost {F = F} 0 (ended value)
of_ended value events outcome goes = none_there events goes.0

of_judged : {F A E : Type 0} (told : E → LoginRefusal) (table : Table (Result A E)) → AtMost {F = F} 0 (judged told table)
of_judged told table events outcome goes = none_there events goes.0

of_exchange : {F A : Type 0} (request : RequestRecord A) → AtMost {F = F} 1 (exchange request)
of_exchange request =
    then_most 0 1 began (λ at. made (request.asks at) (request.refuses at) >>= (λ octets. sent octets >>= (λ reply. ended (request.remembers at, reply)))) of_began (λ at.
    then_most 0 1 (made (request.asks at) (request.refuses at)) (λ octets. sent octets >>= (λ reply. ended (request.remembers at, reply))) (of_made (request.asks at) (request.refuses at)) (λ octets.
    then_most 1 0 (sent octets) (λ reply. ended (request.remembers at, reply)) (of_sent octets) (λ reply. of_ended (request.remembers at, reply))))

more : {F A : Type 0} (n m : ℕ) (course : Course F A) → n ≤ m → AtMost n course → AtMost m course
more n m course fits few events outcome goes = let count : length (requests events) ≤ n = few events outcome goes in omega (arith, count, fits)

of_hint : {F : Type 0} (suites : List CipherSuite) (first : AsAskedRecord × Bytes) (own : ClientRecord × ByKey) (is_reply : Bool) → AtMost {F = F} 1 (after_hint suites first own is_reply)
of_hint suites first own true = more 0 1 (granted_first suites own.0 (means_of own.1) first) (omega arith) (λ events outcome goes. none_there events goes.0)
of_hint suites first own false =
    then_most 1 0 (exchange (as_request_by own.0 (own.0.suite ∷ []) (means_of own.1))) (λ second. granted_first suites own.0 (means_of own.1) second)
    (of_exchange (as_request_by own.0 (own.0.suite ∷ []) (means_of own.1))) (λ second events outcome goes. none_there events goes.0)

of_first : {F : Type 0} (suites : List CipherSuite) (keyed : KeyHint → Keyed) (first : AsAskedRecord × Bytes) → AtMost {F = F} 1 (after_first suites keyed first)
of_first suites keyed first =
    then_most 0 1 (judged NotHinted (hint_in_answer suites first.1)) (λ answer. judged (λ refusal. refusal) (done (keyed answer.hint)) >>= (λ own. after_hint suites first own answer.is_reply))
    (of_judged NotHinted (hint_in_answer suites first.1)) (λ answer.
    then_most 0 1 (judged (λ refusal. refusal) (done (keyed answer.hint))) (λ own. after_hint suites first own answer.is_reply)
    (of_judged (λ refusal. refusal) (done (keyed answer.hint))) (λ own. of_hint suites first own answer.is_reply))

of_shared_key : {F : Type 0} (client : ClientRecord) (suites : List CipherSuite) (keyed : KeyHint → Keyed) → AtMost {F = F} 2 (login_by_shared_key client suites keyed)
of_shared_key client suites keyed =
    then_most 1 1 (exchange (first_as_request client suites)) (after_first suites keyed) (of_exchange (first_as_request client suites)) (of_first suites keyed)

pub of_password : {F : Type 0} (client : ClientRecord) (wanted : Wanted) (password : Bytes) → AtMost {F = F} 2 (login_by_password client wanted password)
of_password client wanted password = of_shared_key client (suites_of wanted) (keyed_by_password client wanted password)

pub of_keytab : {F : Type 0} (client : ClientRecord) (wanted : Wanted) (keytab : List Entry) → AtMost {F = F} 2 (login_by_keytab client wanted keytab)
of_keytab client wanted keytab =
    then_most 0 2 (judged (λ refusal. refusal) (done (some_suites (keytab_suites client wanted keytab)))) (λ suites. login_by_shared_key client suites (keyed_by_keytab client keytab))
    (of_judged (λ refusal. refusal) (done (some_suites (keytab_suites client wanted keytab)))) (λ suites. of_shared_key client suites (keyed_by_keytab client keytab))

pub of_means : {F : Type 0} (client : ClientRecord) (suites : List CipherSuite) (means : MeansRecord) → AtMost {F = F} 1 (login_by_means client suites means)
of_means client suites means =
    then_most 1 0 (exchange (as_request_by client suites means)) (λ first. judged NotHinted (suite_for client.suite suites first.1) >>= (λ suite. granted_first suites (record client { suite = suite }) means first))
    (of_exchange (as_request_by client suites means)) (λ first.
    then_most 0 0 (judged NotHinted (suite_for client.suite suites first.1)) (λ suite. granted_first suites (record client { suite = suite }) means first)
    (of_judged NotHinted (suite_for client.suite suites first.1)) (λ suite events outcome goes. none_there events goes.0))

pub of_ticket : {F : Type 0} (client : ClientRecord) (suites : List CipherSuite) (credential : CredentialRecord) (service : List Bytes) → AtMost {F = F} 1 (ticket_for client suites credential service)
of_ticket client suites credential service =
    then_most 1 0 (exchange (tgs_request_by client suites credential service)) (λ further. granted suites (takes_tgs_reply client further.0 further.1))
    (of_exchange (tgs_request_by client suites credential service)) (λ further events outcome goes. none_there events goes.0)

pub of_renewal : {F : Type 0} (client : ClientRecord) (suites : List CipherSuite) (credential : CredentialRecord) → AtMost {F = F} 1 (renewed_ticket client suites credential)
of_renewal client suites credential =
    then_most 1 0 (exchange (renewal_request_by client suites credential)) (λ further. granted suites (takes_tgs_reply client further.0 further.1))
    (of_exchange (renewal_request_by client suites credential)) (λ further events outcome goes. none_there events goes.0)
