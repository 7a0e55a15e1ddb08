-- The suite that has an etype and a key's length.
use Rattle.std.proofs.Common.{◌≡◌, ◌≢◌, ℕ, Bool, ◌&&◌, ◌==◌, List, length, None, Some, ap, sym, ◌∙◌}
use Rattle.std.proofs.lemmas.Bool.{and_from, and_parts, eq-eqb, eqb-true, false_from_ne_true}
use Rattle.std.specs.List.{find}
use Rattle.std.specs.Option.{option_map}
use Rattle.krb_crypto.specs.Keys.{KeyRecord}
use Rattle.krb_crypto.specs.declared.suite.CipherSuite.{CipherSuite}
use Rattle.krb_crypto.specs.Suites.{cipher_key_size, cipher_number, cipher_suites}
use Rattle.krb_crypto.proofs.AllSuites.{suite_found}
use Rattle.krb_crypto.proofs.SealingLemmas.{same_suite}
use Rattle.krb_file_formats.specs.Entries.{Entry}
use Rattle.krb_service.specs.KeytabEntries.{key_of}
use Rattle.krb_service.proofs.Finding.{none_of}

abbrev is_suite : ℕ → ℕ → CipherSuite → Bool
is_suite etype size suite = (cipher_number suite == etype) && (size == cipher_key_size suite)

pub suite_is : (etype size : ℕ) (suite : CipherSuite) → cipher_number suite ≡ etype → size ≡ cipher_key_size suite → find (is_suite etype size) cipher_suites ≡ Some suite
suite_is etype size suite numbered sized =
    suite_found (is_suite etype size) suite (and_from _ _ (eq-eqb (cipher_number suite) etype numbered) (eq-eqb size (cipher_key_size suite) sized))
    (λ s passes. same_suite s suite (eqb-true (cipher_number s) etype ((and_parts _ _ passes).0) ∙ sym numbered))

pub no_suite : (etype size : ℕ) → ((suite : CipherSuite) → cipher_number suite ≡ etype → size ≢ cipher_key_size suite) → find (is_suite etype size) cipher_suites ≡ None
no_suite etype size none =
    none_of (is_suite etype size) cipher_suites
    (λ s. false_from_ne_true (is_suite etype size s)
    (λ passes. let parts = and_parts (cipher_number s == etype) (size == cipher_key_size s) passes in
    none s (eqb-true (cipher_number s) etype parts.0) (eqb-true size (cipher_key_size s) parts.1)))

-- the key of a record
abbrev key_by : CipherSuite → List ℕ → KeyRecord
key_by suite bytes = record { suite = suite; bytes = bytes }

pub key_some : (e : Entry) (key : KeyRecord) → cipher_number key.suite ≡ e.etype → key.bytes ≡ e.key → length key.bytes ≡ cipher_key_size key.suite → Some key ≡ key_of e
key_some e key numbered bytes sized =
    ap (λ octets. Some (key_by key.suite octets)) bytes
    ∙ ap (option_map (λ suite. key_by suite e.key)) (sym (suite_is e.etype (length e.key) key.suite numbered (ap length (sym bytes) ∙ sized)))

pub key_none : (e : Entry) → ((suite : CipherSuite) → cipher_number suite ≡ e.etype → length e.key ≢ cipher_key_size suite) → None ≡ key_of e
key_none e none = ap (option_map (λ suite. key_by suite e.key)) (sym (no_suite e.etype (length e.key) none))
