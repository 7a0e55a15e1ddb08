-- The suite of a hint is among those that the client listed, and so it isn't weaker than the weakest of them.
use Rattle.std.proofs.Common.{◌≡◌, ◌==◌, ◌≤◌, ℤ, not, List, [], ◌∷◌, Some, Ok, Contains, inl, inr, ap, arith, subst, sym}
use Rattle.std.specs.Option.{option_map}
use Rattle.std.proofs.lemmas.List.Elements.{Contains-append_cases, Contains-push_cases}
use Rattle.decision_tables.specs.Tables.{Table, done, need, refuse}
use Rattle.picky_asn1.specs.Bytes.{Bytes}
use Rattle.picky_asn1.specs.Numbers.{is_number}
use Rattle.krb_constants.specs.declared.error_codes.TheConstants.{KDC_ERR_PREAUTH_REQUIRED}
use Rattle.krb_constants.specs.declared.padata_types.TheConstants.{PA_ETYPE_INFO2}
use Rattle.krb_crypto.specs.Suites.{cipher_number}
use Rattle.krb_crypto.specs.declared.suite.CipherSuite.{CipherSuite}
use Rattle.krb_messages.specs.Messages.{IsKrbError, sole_krb_error}
use Rattle.krb_messages.specs.Padata.{first_of}
use Rattle.krb_messages.specs.declared.data_types.etype_info2.EtypeInfo2Entry.{EtypeInfo2Entry}
use Rattle.krb_client_exchanges.specs.Hints.{Hinted, error_hint, first_entry, hint_by, hint_of_data, hint_of_entries, hint_of_error, hint_of_info, hint_of_methods, suite_among}
use Rattle.krb_client_exchanges.specs.Messages.{IsEtypeInfo2, IsMethodData, sole_etype_info2, sole_method_data}
use Rattle.krb_client_exchanges.specs.Parameters.{has_own_parameters}
use Rattle.krb_client_exchanges.specs.Suites.{strength, weakest}
use Rattle.krb_client_exchanges.specs.declared.hint.KeyHint.{KeyHint}
use Rattle.krb_client_exchanges.specs.declared.refusal.HintRefusal.TheVariants.{NoHint, NoSuite, OtherParameters, Refused, Unreadable}
use Rattle.krb_client_exchanges.proofs.Found.{found_inside, not_refused, was_asked, was_needed}

-- the weakest of suites is no stronger than any of them
pub least : (suites : List CipherSuite) (suite : CipherSuite) → Contains suites suite → weakest suites ≤ strength suite
least [] suite inside = absurd (omega (arith, inside.1))
least (other ∷ suites) suite inside = elim (Contains-append_cases (other ∷ []) suites suite inside) [
  | inl here ↦ elim (Contains-push_cases [] other suite here) [
    | inl nowhere ↦ absurd (omega (arith, nowhere.1))
    | inr same ↦ let own : strength other ≡ strength suite = cc (same) in omega arith
  ]
  | inr later ↦ let below = least suites suite later in omega arith
]

-- a suite that has the number is among the suites
pub among_inside : (suites : List CipherSuite) (number : ℤ) (suite : CipherSuite) → suite_among suites number ≡ Some suite → Contains suites suite
unfolding suite_among
among_inside suites number suite e = found_inside (λ s. is_number (cipher_number s) number) suites suite e

-- a hint by an entry has the suite by which it was made
of_entry : (suites : List CipherSuite) (suite : CipherSuite) (entry : EtypeInfo2Entry) (hint : KeyHint) → Contains suites suite → (done {T = Hinted} (Ok (hint_by suite entry))).gives (Ok hint) → Contains suites hint.suite
of_entry suites suite entry hint inside given =
    let same : hint ≡ hint_by suite entry = cc (given) in subst (λ (own : CipherSuite). Contains suites own) (sym (ap (λ h. h.suite) same)) inside

of_entries : (suites : List CipherSuite) (entries : List EtypeInfo2Entry) (hint : KeyHint) → (hint_of_entries suites entries).gives (Ok hint) → Contains suites hint.suite
of_entries suites entries hint given =
    let made : CipherSuite → EtypeInfo2Entry → Table Hinted = λ suite entry. refuse (not (has_own_parameters suite entry)) OtherParameters (done {T = Hinted} (Ok (hint_by suite entry))) in
    let by : EtypeInfo2Entry → Table Hinted = λ entry. need (suite_among suites entry.etype.0) NoSuite (λ suite. made suite entry) in
    let entry = was_needed (first_entry suites entries) NoSuite by hint given in
    let suite = was_needed (suite_among suites entry.0.etype.0) NoSuite (λ own. made own entry.0) hint entry.2 in
    of_entry suites suite.0 entry.0 hint (among_inside suites entry.0.etype.0 suite.0 suite.1)
    (not_refused (not (has_own_parameters suite.0 entry.0)) OtherParameters (done {T = Hinted} (Ok (hint_by suite.0 entry.0))) hint suite.2)

pub of_info : (suites : List CipherSuite) (info : Bytes) (hint : KeyHint) → (hint_of_info suites info).gives (Ok hint) → Contains suites hint.suite
unfolding hint_of_info
of_info suites info hint given =
    let entries = was_asked (IsEtypeInfo2 info) (sole_etype_info2 info) NoHint (hint_of_entries suites) hint given in of_entries suites entries.0 hint entries.2

of_data : (suites : List CipherSuite) (octets : Bytes) (hint : KeyHint) → (hint_of_data suites octets).gives (Ok hint) → Contains suites hint.suite
unfolding hint_of_data
of_data suites octets hint given =
    let methods = was_asked (IsMethodData octets) (sole_method_data octets) NoHint (hint_of_methods suites) hint given in
    let info = was_needed (first_of PA_ETYPE_INFO2 methods.0) NoHint (hint_of_info suites) hint methods.2 in
    of_info suites info.0 hint info.2

-- the suite of an error's hint is one that the client listed
pub listed : (suites : List CipherSuite) (bytes : Bytes) (hint : KeyHint) → (error_hint suites bytes).gives (Ok hint) → Contains suites hint.suite
unfolding error_hint
listed suites bytes hint given =
    let error = was_asked (IsKrbError bytes) (sole_krb_error bytes) Unreadable (hint_of_error suites) hint given in
    let of : Table Hinted = need (option_map (λ tagged. tagged.0) error.0.e_data.0) NoHint (hint_of_data suites) in
    let coded = not_refused (not (error.0.error_code.0 == KDC_ERR_PREAUTH_REQUIRED)) (Refused error.0.error_code.0) of hint error.2 in
    let data_of = was_needed (option_map (λ tagged. tagged.0) error.0.e_data.0) NoHint (hint_of_data suites) hint coded in
    of_data suites data_of.0 hint data_of.2
