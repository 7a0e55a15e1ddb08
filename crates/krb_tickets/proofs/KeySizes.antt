-- A key that is of a suite has as many bytes as the suite's keys.
use Rattle.std.proofs.Common.{◌≡◌, ℕ, true, List, length, Some, Result, Ok, Err, IsOk, IfOk, refl, ap, sym, subst, ◌∙◌}
use Rattle.std.proofs.lemmas.Bool.{and_from, and_parts, eq-eqb, eqb-true, false≢true}
use Rattle.std.specs.Option.{option_map}
use Rattle.std.specs.Prelude.{ℤ, pos}
use Rattle.std.specs.Result.{result_ok}
use Rattle.block_ciphers.specs.declared.error.KerberosCryptoError.{KerberosCryptoError}
use Rattle.krb_crypto.specs.declared.suite.CipherSuite.{CipherSuite}
use Rattle.krb_crypto.specs.Keys.{KeyRecord}
use Rattle.krb_crypto.specs.Suites.{cipher_key_size, cipher_number, cipher_suites}
use Rattle.krb_crypto.proofs.AllSuites.{found_passes, suite_found}
use Rattle.krb_crypto.proofs.SealingLemmas.{same_suite}
use Rattle.krb_messages.specs.declared.data_types.encryption_key.EncryptionKey.{EncryptionKey}
use Rattle.picky_asn1.specs.Numbers.{is_number}
use Rattle.krb_tickets.specs.Keys.{is_key_of, key_in, suite_of}

has_size : (suite : CipherSuite) (key : EncryptionKey) → is_key_of suite key ≡ true → length key.key_value.0 ≡ cipher_key_size suite
has_size suite key e = eqb-true (length key.key_value.0) (cipher_key_size suite) ((and_parts _ _ e).1)

pub suite_sized : (key : EncryptionKey) (suite : CipherSuite) → suite_of key ≡ Some suite → length key.key_value.0 ≡ cipher_key_size suite
suite_sized key suite e = has_size suite key (found_passes (λ s. is_key_of s key) cipher_suites suite e)

is_numbered : (n : ℕ) (kind : ℤ) → kind ≡ pos n → is_number n kind ≡ true
is_numbered n kind told = subst (λ (k : ℤ). is_number n k ≡ true) (sym told) (eq-eqb n n refl)

numbers_agree : (m n : ℕ) (kind : ℤ) → kind ≡ pos n → is_number m kind ≡ true → m ≡ n
numbers_agree m n kind told is = sym (eqb-true n m (subst (λ (k : ℤ). is_number m k ≡ true) told is))

-- a key that has a suite's number and the length of its keys is a key of that suite
pub suite_of_sized : (key : EncryptionKey) (suite : CipherSuite) → key.key_type.0 ≡ pos (cipher_number suite) → length key.key_value.0 ≡ cipher_key_size suite → suite_of key ≡ Some suite
suite_of_sized key suite told sized =
    suite_found (λ s. is_key_of s key) suite (and_from _ _ (is_numbered (cipher_number suite) key.key_type.0 told) (eq-eqb (length key.key_value.0) (cipher_key_size suite) sized))
    (λ s passes. same_suite s suite (numbers_agree (cipher_number s) (cipher_number suite) key.key_type.0 told ((and_parts _ _ passes).0)))

abbrev key_by : CipherSuite → List ℕ → KeyRecord
key_by suite bytes = record { suite = suite; bytes = bytes }

-- what is made of the key's bytes is the key of its suite
pub made_key : (key : EncryptionKey) (suite : CipherSuite) (bytes : List ℕ) (made : Result KeyRecord KerberosCryptoError) → suite_of key ≡ Some suite → bytes ≡ key.key_value.0
    → (length bytes ≡ cipher_key_size suite → IsOk made) → IfOk made (λ own. own ≡ key_by suite bytes) → result_ok made ≡ key_in key
made_key key suite bytes (Ok own) of_suite told fits is =
    ap Some (is ∙ ap (key_by suite) told) ∙ ap (option_map (λ s. key_by s key.key_value.0)) (sym of_suite)
made_key key suite bytes (Err e) of_suite told fits is = absurd (false≢true (fits (ap length told ∙ suite_sized key suite of_suite)))
