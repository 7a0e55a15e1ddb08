-- The key of a suite that a shared secret gives by a key derivation function (RFC 8636, section 6).
use Rattle.std.specs.Prelude.{◌++◌}
use Rattle.std.specs.Int.{div_ceil}
use Rattle.picky_asn1.specs.Bytes.{Bytes}
use Rattle.krb_crypto.specs.Sealing.{seed_key_of}
use Rattle.krb_crypto.specs.Suites.{cipher_seed_bits}
use Rattle.krb_crypto.specs.declared.suite.CipherSuite.{CipherSuite}
use Rattle.pkinit_messages.specs.Contexts.{ContextRecord}
use Rattle.pkinit_messages.specs.Kdfs.{kdf_octets}
use Rattle.pkinit_messages.specs.OtherInfos.{other_info_bytes, other_info_of}
use Rattle.pkinit_messages.specs.declared.agility.kdf.Kdf.{Kdf}

-- as many octets as the suite's seed has, of the shared secret and OtherInfo
unfoldable pub derived_seed : CipherSuite → Kdf → Bytes → ContextRecord → Bytes
derived_seed suite kdf secret context =
    kdf_octets kdf (div_ceil (cipher_seed_bits suite) 8) (secret ++ other_info_bytes (other_info_of suite kdf context))

-- the key is random-to-key of these octets
abbrev pub derived_key : CipherSuite → Kdf → Bytes → ContextRecord → Bytes
derived_key suite kdf secret context = seed_key_of suite (derived_seed suite kdf secret context)
