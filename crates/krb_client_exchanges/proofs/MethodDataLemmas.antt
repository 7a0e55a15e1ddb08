-- What a realm of this stack writes of an account's key, and what a client reads of it.
use Rattle.std.proofs.Common.{◌≡◌, ◌==◌, Bool, true, false, not, is_some, List, [], ◌∷◌, Option, None, Some, Ok, pos, refl, ap, subst, sym, inl, inr, arith, cond, if◌then◌else◌, Contains}
use Rattle.std.proofs.lemmas.List.Elements.{Contains-append_cases, Contains-push_cases}
use Rattle.std.specs.List.{find}
use Rattle.std.specs.Option.{option_map}
use Rattle.asn1_der.specs.Tree.{Writes, constructed, der, leaf, more, none, primitive, wrapped}
use Rattle.asn1_der.proofs.Leaf.{whole-leaf}
use Rattle.asn1_der.proofs.Spelling.{whole-wrapped}
use Rattle.asn1_leaves.specs.CharSets.{is_general_string}
use Rattle.decision_tables.specs.Tables.{Table, done, need, refuse}
use Rattle.picky_asn1.specs.Bytes.{Bytes}
use Rattle.picky_asn1.specs.Integer.{integer_content}
use Rattle.picky_asn1.specs.Numbers.{is_number}
use Rattle.krb_realm_accounts.specs.Account.{AccountRecord}
use Rattle.krb_constants.specs.declared.error_codes.TheConstants.{KDC_ERR_PREAUTH_REQUIRED}
use Rattle.krb_constants.specs.declared.padata_types.TheConstants.{PA_ETYPE_INFO2}
use Rattle.krb_crypto.proofs.SealingLemmas.{same_suite}
use Rattle.krb_crypto.specs.Suites.{cipher_number}
use Rattle.krb_crypto.specs.declared.suite.CipherSuite.{CipherSuite}
use Rattle.krb_messages.specs.Messages.{IsKrbError}
use Rattle.krb_messages.specs.declared.messages.krb_error.KrbErrorInner.{KrbErrorInner}
use Rattle.krb_tickets.specs.MethodData.{key_entry, key_info_bytes, key_info_tree, method_data, method_data_bytes, salt_of}
use Rattle.krb_messages.specs.Padata.{first_of, first_padata}
use Rattle.krb_messages.specs.declared.data_types.etype_info2.EtypeInfo2Entry.{EtypeInfo2Entry}
use Rattle.krb_client_exchanges.specs.Hints.{Hinted, error_hint, first_entry, hint_by, hint_of_data, hint_of_entries, hint_of_info, suite_among}
use Rattle.krb_client_exchanges.specs.Messages.{IsEtypeInfo2, IsMethodData}
use Rattle.krb_client_exchanges.specs.Parameters.{has_own_parameters}
use Rattle.krb_client_exchanges.specs.declared.hint.KeyHint.{KeyHint}
use Rattle.krb_client_exchanges.specs.declared.refusal.HintRefusal.TheVariants.{NoHint, NoSuite, OtherParameters, Refused}

-- a salt, by whether it is a GeneralString
salted : (suite : CipherSuite) (salt : Bytes) (is : Bool) → is_general_string salt ≡ is
    → Writes key_info_tree (key_entry suite (if is then Some salt else None) ∷ []) (der (key_info_tree (key_entry suite (Some salt) ∷ [])))
salted suite salt true e = (
  (((tt, tt), (whole-wrapped 161 (leaf (is_general_string salt) 27 salt) (whole-leaf (is_general_string salt) 27 salt e), tt)), tt),
  refl,
)
salted suite salt false e =
    let entry : Bool → Bytes = λ is. der (constructed 48 (more (constructed 48 (more (wrapped 160 (primitive 2 (integer_content (pos (cipher_number suite))))) (more (wrapped 161 (leaf is 27 salt)) none))) none)) in (
      (((tt, tt), tt), tt),
      subst (λ is. entry is ≡ der (key_info_tree (key_entry suite None ∷ []))) (sym e) refl,
    )

-- the ETYPE-INFO2 of an account has its suite, and its salt where that is a GeneralString
info_read : (account : AccountRecord) → IsEtypeInfo2 (key_info_bytes account) (key_entry account.suite (salt_of account.salt) ∷ [])
unfolding IsEtypeInfo2 key_info_bytes
info_read account =
    elim account.salt as (λ salt. Writes key_info_tree (key_entry account.suite (salt_of salt) ∷ []) (der (key_info_tree (key_entry account.suite salt ∷ [])))) [
      | None ↦ ((((tt, tt), tt), tt), refl)
      | Some salt ↦ salted account.suite salt (is_general_string salt) refl
    ]

-- the METHOD-DATA of an account is read as it was written
methods_read : (by_certificate : Bool) (account : AccountRecord) → IsMethodData (method_data_bytes by_certificate account) (method_data by_certificate account)
unfolding IsMethodData method_data_bytes method_data
methods_read true account = ((((tt, tt), ((tt, tt), tt)), (((tt, tt), ((tt, tt), tt)), (((tt, tt), ((tt, tt), tt)), tt))), refl)
methods_read false account = ((((tt, tt), ((tt, tt), tt)), (((tt, tt), ((tt, tt), tt)), tt)), refl)

-- its first PA-ETYPE-INFO2 is the account's
info_found : (by_certificate : Bool) (account : AccountRecord) → first_of PA_ETYPE_INFO2 (method_data by_certificate account) ≡ Some (key_info_bytes account)
unfolding first_of first_padata method_data
info_found true account = refl
info_found false account = refl

-- a suite's own number is no other's
own_number : (suite other : CipherSuite) → is_number (cipher_number other) (pos (cipher_number suite)) ≡ true → other ≡ suite
own_number suite other e = let same : cipher_number other ≡ cipher_number suite = grind arith in same_suite other suite same

-- a suite is found among suites that contain it
among : (suite : CipherSuite) (suites : List CipherSuite) → Contains suites suite → suite_among suites (pos (cipher_number suite)) ≡ Some suite
unfolding suite_among
among suite [] inside = absurd (omega (arith, inside.1))
among suite (other ∷ suites) inside =
    let p : CipherSuite → Bool = λ s. is_number (cipher_number s) (pos (cipher_number suite)) in
    elim (p other) as (λ is. p other ≡ is → cond is (Some other) (find p suites) ≡ Some suite) [
      | true ↦ λ is. ap Some (own_number suite other is)
      | false ↦ λ is. elim (Contains-append_cases (other ∷ []) suites suite inside) [
        | inl here ↦ elim (Contains-push_cases [] other suite here) [
          | inl nowhere ↦ absurd (omega (arith, nowhere.1))
          | inr same ↦ absurd (let own : p suite ≡ true = grind arith in cc (own, is, same))
        ]
        | inr later ↦ among suite suites later
      ]
    ] refl

-- the entry of an account is the first that counts
entry_found : (suites : List CipherSuite) (entry : EtypeInfo2Entry) (suite : CipherSuite) → suite_among suites entry.etype.0 ≡ Some suite → first_entry suites (entry ∷ []) ≡ Some entry
unfolding first_entry
entry_found suites entry suite e = subst (λ o. cond (is_some o) (Some entry) None ≡ Some entry) (sym e) refl

salt_held : (suite : CipherSuite) (salt : Option Bytes) → hint_by suite (key_entry suite salt) ≡ record { suite = suite; salt = salt }
salt_held suite None = refl
salt_held suite (Some salt) = refl

entries_given : (suites : List CipherSuite) (suite : CipherSuite) (salt : Option Bytes) → Contains suites suite
    → (hint_of_entries suites (key_entry suite salt ∷ [])).gives (Ok (record { suite = suite; salt = salt }))
entries_given suites suite salt inside =
    let entry : EtypeInfo2Entry = key_entry suite salt in
    let own : suite_among suites entry.etype.0 ≡ Some suite = among suite suites inside in
    let by : CipherSuite → Table Hinted = λ s. refuse (not (has_own_parameters s entry)) OtherParameters (done (Ok (hint_by s entry))) in
    let at : EtypeInfo2Entry → Table Hinted = λ e. need (suite_among suites e.etype.0) NoSuite (λ s. refuse (not (has_own_parameters s e)) OtherParameters (done (Ok (hint_by s e)))) in
    let hint : KeyHint = record { suite = suite; salt = salt } in
    subst (λ o. (need o NoSuite at).gives (Ok hint)) (sym (entry_found suites entry suite own))
    (subst (λ o. (need o NoSuite by).gives (Ok hint)) (sym own) (ap Ok (sym (salt_held suite salt))))

info_given : (suites : List CipherSuite) (account : AccountRecord) → Contains suites account.suite
    → (hint_of_info suites (key_info_bytes account)).gives (Ok (record { suite = account.suite; salt = salt_of account.salt }))
unfolding hint_of_info
info_given suites account inside =
    inl (key_entry account.suite (salt_of account.salt) ∷ [], info_read account, entries_given suites account.suite (salt_of account.salt) inside)

data_given : (suites : List CipherSuite) (by_certificate : Bool) (account : AccountRecord) → Contains suites account.suite
    → (hint_of_data suites (method_data_bytes by_certificate account)).gives (Ok (record { suite = account.suite; salt = salt_of account.salt }))
unfolding hint_of_data
data_given suites by_certificate account inside =
    let hint : KeyHint = record { suite = account.suite; salt = salt_of account.salt } in
    inl (
      method_data by_certificate account,
      methods_read by_certificate account,
      subst (λ o. (need o NoHint (hint_of_info suites)).gives (Ok hint)) (sym (info_found by_certificate account)) (info_given suites account inside),
    )

-- what an error with the METHOD-DATA of an account says is the account's suite, and its salt where that is a GeneralString
pub hint_of_account : (suites : List CipherSuite) (by_certificate : Bool) (account : AccountRecord) (bytes : Bytes) (error : KrbErrorInner)
    → Contains suites account.suite → IsKrbError bytes error → error.error_code.0 ≡ KDC_ERR_PREAUTH_REQUIRED
    → option_map (λ tagged. tagged.0) error.e_data.0 ≡ Some (method_data_bytes by_certificate account)
    → (error_hint suites bytes).gives (Ok (record { suite = account.suite; salt = salt_of account.salt }))
unfolding error_hint
hint_of_account suites by_certificate account bytes error inside is coded given =
    let hint : KeyHint = record { suite = account.suite; salt = salt_of account.salt } in
    let by_data : Option Bytes → Table Hinted = λ o. need o NoHint (hint_of_data suites) in
    inl (
      error,
      is,
      subst (λ code. (refuse (not (code == KDC_ERR_PREAUTH_REQUIRED)) (Refused code) (by_data (option_map (λ tagged. tagged.0) error.e_data.0))).gives (Ok hint)) (sym coded)
          (subst (λ o. (by_data o).gives (Ok hint)) (sym given) (data_given suites by_certificate account inside)),
    )
