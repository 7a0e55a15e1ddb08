-- The laws that carry sealing, of AES with ciphertext stealing.
use Rattle.std.proofs.Common.{◌≡◌, ◌≤◌, ℕ, List, [], length, refl, sym, arith}
use Rattle.std.proofs.lemmas.List.{append-nil, length-take-le}
use Rattle.block_ciphers.specs.Aes.{aes_cipher, aes_inverse}
use Rattle.block_ciphers.specs.AesSize.{key_length_of}
use Rattle.block_ciphers.specs.Bytes.{IsBytes}
use Rattle.block_ciphers.specs.Chains.{IsBlockCipher, IsStolen}
use Rattle.block_ciphers.specs.declared.aes.AesSize.{AesSize}
use Rattle.block_ciphers.proofs.Rounds.{IsAesKey-of_size, aes_block_cipher}
use Rattle.block_ciphers.proofs.Stealing.{length-stolen, stolen_function, stolen_text}
use Rattle.encryption_profiles.specs.Hmac.{hmac_sha1_of}
use Rattle.encryption_profiles.proofs.HmacLemmas.{length-hmac_of}
use Rattle.encryption_profiles.specs.Derivation.{usage_constant}
use Rattle.encryption_profiles.specs.Profile.{ke_of}
use Rattle.encryption_profiles.proofs.Stolen.{has_stolen, stolen-bytes}
use Rattle.encryption_profiles.proofs.Laws.{HasLaws}
use Rattle.encryption_profiles.specs.AesDerivation.{aes_derived_key_of}
use Rattle.encryption_profiles.specs.AesSuites.{aes_profile, aes_tag_of}
use Rattle.encryption_profiles.proofs.DerivedKeys.{derived_aes_key, derived_key}

-- a checksum has 12 bytes
length-aes_tag_of : (key text : List ℕ) → length (aes_tag_of key text) ≡ 12
length-aes_tag_of key text = length-take-le 12 (hmac_sha1_of key text) (omega (arith, length-hmac_of 64 key text))

-- under a key of a usage AES is undone
usage_pair : (size : AesSize) (key : List ℕ) (usage : ℕ) → length key ≡ key_length_of size → IsBytes key
    → IsBlockCipher 16 (aes_cipher (ke_of (aes_profile size) key usage)) (aes_inverse (ke_of (aes_profile size) key usage))
usage_pair size key usage sized bytes =
    let is_key = IsAesKey-of_size size key sized in
    aes_block_cipher (aes_derived_key_of key (usage_constant usage 0xAA)) (derived_aes_key key (usage_constant usage 0xAA) is_key bytes) (derived_key key (usage_constant usage 0xAA) is_key bytes).1

one_stolen : (size : AesSize) (key : List ℕ) (usage : ℕ) → length key ≡ key_length_of size → IsBytes key → (s t c : List ℕ) → IsBytes s → IsBytes t → 16 ≤ length s → 16 ≤ length t
    → IsStolen 16 (aes_cipher (ke_of (aes_profile size) key usage)) s c → IsStolen 16 (aes_cipher (ke_of (aes_profile size) key usage)) t c → s ≡ t
one_stolen size key usage sized bytes s t c s_bytes t_bytes s_long t_long first second =
    let E : List ℕ → List ℕ = aes_cipher (aes_derived_key_of key (usage_constant usage 0xAA)) in
    let D : List ℕ → List ℕ = aes_inverse (aes_derived_key_of key (usage_constant usage 0xAA)) in
    let pair = usage_pair size key usage sized bytes in
    stolen_text 16 E D pair s t c s_bytes t_bytes (stolen-bytes 16 E D pair s c s_bytes first) s_long t_long first second

pub aes_laws : (size : AesSize) → HasLaws (aes_profile size)
aes_laws size = record {
  tag_sized = length-aes_tag_of;
  filled_bytes = λ text bytes. bytes;
  filled_behind = λ conf plain sized. refl;
  filled_front = λ text. ([], sym (append-nil text));
  filled_again = λ text. refl;
  one_cipher = λ key text c d long first second. stolen_function 16 (aes_cipher key) text c d (omega arith) first second;
  cipher_sized = λ key text c long stolen. length-stolen 16 (aes_cipher key) text c (omega arith) long stolen;
  one_text = one_stolen size;
  has_cipher = λ key usage sized bytes s s_bytes.
      has_stolen 16 (aes_cipher (aes_derived_key_of key (usage_constant usage 0xAA))) (aes_inverse (aes_derived_key_of key (usage_constant usage 0xAA))) (usage_pair size key usage sized bytes) s s_bytes;
}
