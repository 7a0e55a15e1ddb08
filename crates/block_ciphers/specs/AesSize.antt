-- The two sizes of AES keys that Kerberos uses.
use Rattle.std.specs.Prelude.{ℕ}
use Rattle.block_ciphers.specs.declared.aes.AesSize.{AesSize}
use Rattle.block_ciphers.specs.declared.aes.AesSize.TheVariants.{Aes256, Aes128}

-- a key's bytes (RFC 3962, section 6)
abbrev pub key_length_of : AesSize → ℕ
key_length_of Aes256 = 32
key_length_of Aes128 = 16
