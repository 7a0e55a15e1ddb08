-- The key that is found in a message's key.
use Rattle.std.proofs.Common.{◌≡◌, ℕ, List, Option, None, Some, ap, refl}
use Rattle.std.specs.Option.{option_map}
use Rattle.krb_crypto.specs.Keys.{KeyRecord}
use Rattle.krb_crypto.specs.declared.suite.CipherSuite.{CipherSuite}
use Rattle.krb_tickets.specs.Keys.{key_in, suite_of}
use Rattle.krb_messages.specs.declared.data_types.encryption_key.EncryptionKey.{EncryptionKey}

abbrev key_by : List ℕ → CipherSuite → KeyRecord
key_by bytes suite = record { suite = suite; bytes = bytes }

found_by : (bytes : List ℕ) (suite : Option CipherSuite) (own : KeyRecord) → option_map (key_by bytes) suite ≡ Some own → (suite ≡ Some own.suite) × (bytes ≡ own.bytes)
found_by bytes None own e = absurd (cc (e))
found_by bytes (Some suite) own e =
    let same : key_by bytes suite ≡ own = cc (e) in
    (ap (λ (k : KeyRecord). Some k.suite) same, ap (λ (k : KeyRecord). k.bytes) same)

none_by : (bytes : List ℕ) (suite : Option CipherSuite) → option_map (key_by bytes) suite ≡ None → suite ≡ None
none_by bytes None e = refl
none_by bytes (Some suite) e = absurd (cc (e))

-- it is of the suite that the message's key is one of, and has its bytes
pub key_found : (key : EncryptionKey) (own : KeyRecord) → key_in key ≡ Some own → (suite_of key ≡ Some own.suite) × (key.key_value.0 ≡ own.bytes)
key_found key own e = found_by key.key_value.0 (suite_of key) own e

-- where there is none, the message's key is of no suite
pub no_key_found : (key : EncryptionKey) → key_in key ≡ None → suite_of key ≡ None
no_key_found key e = none_by key.key_value.0 (suite_of key) e
