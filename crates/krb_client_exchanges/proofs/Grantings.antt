-- Of which suite the session key of a credential is, and of which suite and salt a key.
use Rattle.std.proofs.Common.{◌≡◌, ◌==◌, ◌&&◌, ◌||◌, Bool, true, false, not, nat_eq, List, [], ◌∷◌, Option, None, Some, is_some, Ok, Err, refl, inl, inr, ap, sym, ◌∙◌, subst, cond, if◌then◌else◌}
use Rattle.std.specs.Cmp.Lexicographic.{bytes_decides, pointwise}
use Rattle.std.specs.List.{filter, list_any}
use Rattle.std.specs.Option.{option_map_or}
use Rattle.decision_tables.specs.Tables.{Table, done}
use Rattle.picky_asn1.specs.Bytes.{Bytes}
use Rattle.krb_realm_accounts.specs.Names.{are_components, is_realm_name}
use Rattle.krb_realm_accounts.specs.Passwords.{password_salt}
use Rattle.krb_crypto.specs.Sealing.{password_key_of}
use Rattle.krb_crypto.specs.Suites.{cipher_number}
use Rattle.krb_crypto.specs.declared.suite.CipherSuite.{CipherSuite}
use Rattle.krb_file_formats.specs.Entries.{Entry}
use Rattle.krb_client.specs.AsReply.{takes_as_reply}
use Rattle.krb_client.specs.Asked.{AsAskedRecord}
use Rattle.krb_client.specs.Client.{ClientRecord, CredentialRecord}
use Rattle.krb_client.specs.Means.{MeansRecord}
use Rattle.krb_client.specs.Taking.{Taken}
use Rattle.krb_client.specs.TgsReply.{takes_tgs_reply}
use Rattle.krb_client.specs.declared.by_key.ByKey.{ByKey}
use Rattle.krb_client.specs.declared.refusal.TakeRefusal.TheVariants.{NotAsked}
use Rattle.krb_client_exchanges.specs.Grants.{taken_of_suites}
use Rattle.krb_client_exchanges.specs.HintedClients.{has_default_salt, is_keyless, salt_by, takes_suite}
use Rattle.krb_client_exchanges.specs.Suites.{is_one_of, suites_of}
use Rattle.krb_client_exchanges.specs.declared.hint.KeyHint.{KeyHint}
use Rattle.krb_client_exchanges.specs.declared.refusal.HintedClientRefusal.{HintedClientRefusal}
use Rattle.krb_client_exchanges.specs.declared.refusal.HintedClientRefusal.TheVariants.{BadName, NoKey, OtherSalt, OtherSuite}
use Rattle.krb_client_exchanges.specs.declared.wanted.Wanted.{Wanted}
use Rattle.krb_client_exchanges.specs.declared.wanted.Wanted.TheVariants.{Usual}
use Rattle.krb_client_exchanges.specs.AnswerHints.{hint_in_answer, suite_for}
use Rattle.krb_client_exchanges.specs.Courses.{Course, ◌>>=◌, judged}
use Rattle.krb_client_exchanges.specs.Events.{Event}
use Rattle.krb_client_exchanges.specs.Logins.{after_first, after_hint, granted, granted_first, login_by_keytab, login_by_means, login_by_password, login_by_shared_key, means_of, renewed_ticket, ticket_for}
use Rattle.krb_client_exchanges.specs.RequestKinds.{as_request_by, exchange, first_as_request, renewal_request_by, tgs_request_by}
use Rattle.krb_client_exchanges.specs.SharedKeys.{Keyed, keyed_by_keytab, keyed_by_password, newest_key, some_suites, keytab_suites, told_as}
use Rattle.krb_client_exchanges.specs.declared.fault.LoginRefusal.{LoginRefusal}
use Rattle.krb_client_exchanges.specs.declared.fault.LoginRefusal.TheVariants.{NotHinted, NotMade}

-- Each value of the course has the property.
abbrev pub Gives : {F A : Type 0} → (A → Type 0) → Course F A → Type 0
Gives Has course = (events : List (Event _)) (value : _) → course events (Ok value) → Has value

then_gives : {F A B : Type 0} (Has : B → Type 0) (first : Course F A) (rest : A → Course F B) → ((value : A) → Gives Has (rest value)) → Gives Has (first >>= rest)
then_gives Has first rest gives events value (inl both) = gives both.2 both.1 value both.5
then_gives Has first rest gives events value (inr failed) = absurd (let e = failed.2 in cc (e))

-- the session key is of a listed suite
abbrev IsListed : List CipherSuite → CredentialRecord → Type 0
IsListed suites credential = is_one_of suites credential.suite ≡ true

kept : (listed : Bool) (a credential : CredentialRecord) → Ok credential ≡ (if listed then Ok a else Err NotAsked) → (listed ≡ true) × (credential ≡ a)
kept true a credential e = (refl, cc (e))
kept false a credential e = absurd (cc (e))

of_taken : (suites : List CipherSuite) (a : Taken) (credential : CredentialRecord) → Ok credential ≡ taken_of_suites suites a → IsListed suites credential
of_taken suites (Ok a) credential e = let k = kept (is_one_of suites a.suite) a credential e in subst (λ (c : CredentialRecord). IsListed suites c) (sym k.1) k.0
of_taken suites (Err refusal) credential e = absurd (cc (e))

of_granted : {F : Type 0} (suites : List CipherSuite) (table : Table Taken) → Gives {F = F} (IsListed suites) (granted suites table)
of_granted suites table events credential goes = of_taken suites goes.1.0 credential goes.1.2

of_hint : {F : Type 0} (suites : List CipherSuite) (first : AsAskedRecord × Bytes) (own : ClientRecord × ByKey) (is_reply : Bool) → Gives {F = F} (IsListed suites) (after_hint suites first own is_reply)
of_hint suites first own true = of_granted suites (takes_as_reply own.0 (means_of own.1) first.0 first.1)
of_hint suites first own false =
    then_gives (IsListed suites) (exchange (as_request_by own.0 (own.0.suite ∷ []) (means_of own.1))) (λ second. granted_first suites own.0 (means_of own.1) second)
    (λ second. of_granted suites (takes_as_reply own.0 (means_of own.1) second.0 second.1))

of_first : {F : Type 0} (suites : List CipherSuite) (keyed : KeyHint → Keyed) (first : AsAskedRecord × Bytes) → Gives {F = F} (IsListed suites) (after_first suites keyed first)
of_first suites keyed first =
    then_gives (IsListed suites) (judged NotHinted (hint_in_answer suites first.1)) (λ answer. judged (λ refusal. refusal) (done (keyed answer.hint)) >>= (λ own. after_hint suites first own answer.is_reply)) (λ answer.
    then_gives (IsListed suites) (judged (λ refusal. refusal) (done (keyed answer.hint))) (λ own. after_hint suites first own answer.is_reply) (λ own. of_hint suites first own answer.is_reply))

of_shared_key : {F : Type 0} (client : ClientRecord) (suites : List CipherSuite) (keyed : KeyHint → Keyed) → Gives {F = F} (IsListed suites) (login_by_shared_key client suites keyed)
of_shared_key client suites keyed = then_gives (IsListed suites) (exchange (first_as_request client suites)) (after_first suites keyed) (of_first suites keyed)

pub of_password : {F : Type 0} (client : ClientRecord) (wanted : Wanted) (password : Bytes) → Gives {F = F} (IsListed (suites_of wanted)) (login_by_password client wanted password)
of_password client wanted password = of_shared_key client (suites_of wanted) (keyed_by_password client wanted password)

pub of_means : {F : Type 0} (client : ClientRecord) (suites : List CipherSuite) (means : MeansRecord) → Gives {F = F} (IsListed suites) (login_by_means client suites means)
of_means client suites means =
    then_gives (IsListed suites) (exchange (as_request_by client suites means)) (λ first. judged NotHinted (suite_for client.suite suites first.1) >>= (λ suite. granted_first suites (record client { suite = suite }) means first)) (λ first.
    then_gives (IsListed suites) (judged NotHinted (suite_for client.suite suites first.1)) (λ suite. granted_first suites (record client { suite = suite }) means first)
    (λ suite. of_granted suites (takes_as_reply (record client { suite = suite }) means first.0 first.1)))

pub of_ticket : {F : Type 0} (client : ClientRecord) (suites : List CipherSuite) (credential : CredentialRecord) (service : List Bytes) → Gives {F = F} (IsListed suites) (ticket_for client suites credential service)
of_ticket client suites credential service =
    then_gives (IsListed suites) (exchange (tgs_request_by client suites credential service)) (λ further. granted suites (takes_tgs_reply client further.0 further.1))
    (λ further. of_granted suites (takes_tgs_reply client further.0 further.1))

pub of_renewal : {F : Type 0} (client : ClientRecord) (suites : List CipherSuite) (credential : CredentialRecord) → Gives {F = F} (IsListed suites) (renewed_ticket client suites credential)
of_renewal client suites credential =
    then_gives (IsListed suites) (exchange (renewal_request_by client suites credential)) (λ further. granted suites (takes_tgs_reply client further.0 further.1))
    (λ further. of_granted suites (takes_tgs_reply client further.0 further.1))

-- what some element of a part has, some element of the whole has
or_more : (b c d : Bool) → (c ≡ true → d ≡ true) → (b || c) ≡ true → (b || d) ≡ true
or_more true c d more is = refl
or_more false c d more is = more is

or_last : (b d : Bool) → d ≡ true → (b || d) ≡ true
or_last true d is = refl
or_last false d is = is

any_filtered : {X : Type 0} (test p : X → Bool) (xs : List X) → list_any p (filter test xs) ≡ true → list_any p xs ≡ true
any_filtered test p [] is = is
any_filtered {X} test p (x ∷ xs) is =
    elim (test x) as (λ v. list_any p (cond v (x ∷ filter test xs) (filter test xs)) ≡ true → list_any p (x ∷ xs) ≡ true) [
      | true ↦ λ any. or_more (p x) (list_any p (filter test xs)) (list_any p xs) (any_filtered test p xs) any
      | false ↦ λ any. or_last (p x) (list_any p xs) (any_filtered test p xs any)
    ] is

some_are : (all suites : List CipherSuite) → Ok suites ≡ some_suites all → suites ≡ all
some_are [] suites e = absurd (cc (e))
some_are (suite ∷ all) suites e = cc (e)

pub of_keytab : {F : Type 0} (client : ClientRecord) (wanted : Wanted) (keytab : List Entry) → Gives {F = F} (IsListed (suites_of wanted)) (login_by_keytab client wanted keytab)
of_keytab client wanted keytab events credential (inl both) =
    let same : both.2 ≡ keytab_suites client wanted keytab = some_are (keytab_suites client wanted keytab) both.2 both.4.1 in
    let listed : IsListed both.2 credential = of_shared_key client both.2 (keyed_by_keytab client keytab) both.1 credential both.5 in
    any_filtered (λ suite. is_some (newest_key client suite keytab)) (λ own. cipher_number own == cipher_number credential.suite) (suites_of wanted)
    (subst (λ (suites : List CipherSuite). IsListed suites credential) same listed)
of_keytab client wanted keytab events credential (inr failed) = absurd (let e = failed.2 in cc (e))

-- a value that is there was refused by none of four tests
passed : {T : Type 0} (a b c d : Bool) (told : HintedClientRefusal → LoginRefusal) (x y : T)
    → told_as told (if a then Err BadName else if b then Err OtherSuite else if c then Err OtherSalt else if d then Err NoKey else Ok x) ≡ Ok y → (c ≡ false) × (x ≡ y)
passed true b c d told x y e = absurd (cc (e))
passed false true c d told x y e = absurd (cc (e))
passed false false true d told x y e = absurd (cc (e))
passed false false false true told x y e = absurd (cc (e))
passed false false false false told x y e = (refl, cc (e))

is_true : (b : Bool) → not b ≡ false → b ≡ true
is_true true e = refl
is_true false e = absurd (cc (e))

default_of : (salt : Option Bytes) (default : Bytes) → option_map_or (λ own. pointwise nat_eq own default) salt true ≡ true → option_map_or (λ own. own) salt default ≡ default
default_of None default is = refl
default_of (Some salt) default is = (bytes_decides salt default).0 is

pub default_key : (client : ClientRecord) (password : Bytes) (hint : KeyHint) (own : ClientRecord) (means : ByKey) → keyed_by_password client Usual password hint ≡ Ok (own, means)
    → means.key.bytes ≡ password_key_of hint.suite password (password_salt client.realm client.components)
default_key client password hint own means e =
    let made : ClientRecord × ByKey = (
      record { realm = client.realm; components = client.components; suite = hint.suite },
      record { key = record { suite = hint.suite; bytes = password_key_of hint.suite password (salt_by hint client.realm client.components) } },
    ) in
    let both = passed (not (is_realm_name client.realm && are_components client.components)) (not (takes_suite Usual hint)) (not (has_default_salt hint client.realm client.components)) (is_keyless hint password)
    (NotMade hint.suite) made (own, means) e in
    let salt : salt_by hint client.realm client.components ≡ password_salt client.realm client.components =
    default_of hint.salt (password_salt client.realm client.components) (is_true (has_default_salt hint client.realm client.components) both.0) in
    sym (ap (λ (pair : ClientRecord × ByKey). pair.1.key.bytes) both.1) ∙ ap (password_key_of hint.suite password) salt
