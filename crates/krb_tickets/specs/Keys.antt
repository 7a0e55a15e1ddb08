-- Keys of messages (RFC 4120, section 5.2.9).
use Rattle.std.specs.Option.{option_map}
use Rattle.std.specs.List.{find}
use Rattle.std.specs.Prelude.{Bool, ◌==◌, ◌&&◌, length, Option}
use Rattle.krb_crypto.specs.declared.suite.CipherSuite.{CipherSuite}
use Rattle.krb_crypto.specs.Keys.{KeyRecord}
use Rattle.krb_crypto.specs.Suites.{cipher_key_size, cipher_number, cipher_suites}
use Rattle.krb_messages.specs.declared.data_types.encryption_key.EncryptionKey.{EncryptionKey}
use Rattle.picky_asn1.specs.Numbers.{is_number}

-- the key's type is the suite's number, and it has as many bytes as the suite's keys
abbrev pub is_key_of : CipherSuite → EncryptionKey → Bool
is_key_of suite key = is_number (cipher_number suite) key.key_type.0 && (length key.key_value.0 == cipher_key_size suite)

-- the suite that the key is one of
abbrev pub suite_of : EncryptionKey → Option CipherSuite
suite_of key = find (λ suite. is_key_of suite key) cipher_suites

-- the key of that suite
abbrev pub key_in : EncryptionKey → Option KeyRecord
key_in key = option_map (λ suite. record { suite = suite; bytes = key.key_value.0 }) (suite_of key)
