-- The laws that carry sealing, of AES with ciphertext stealing and SHA-2.
use Rattle.std.proofs.Common.{◌≡◌, ◌≤◌, ℕ, List, [], ◌++◌, length, refl, sym, arith}
use Rattle.std.proofs.lemmas.List.{append-nil}
use Rattle.block_ciphers.specs.Aes.{aes_cipher, aes_inverse}
use Rattle.block_ciphers.specs.AesSize.{key_length_of}
use Rattle.block_ciphers.specs.Bytes.{IsBytes}
use Rattle.block_ciphers.specs.Chains.{IsBlockCipher, IsStolen}
use Rattle.block_ciphers.specs.declared.aes.AesSize.{AesSize}
use Rattle.block_ciphers.proofs.Rounds.{IsAesKey-of_size, aes_block_cipher}
use Rattle.block_ciphers.proofs.Stealing.{length-stolen, stolen_function, stolen_text}
use Rattle.encryption_profiles.specs.Derivation.{usage_constant}
use Rattle.encryption_profiles.specs.Profile.{ke_of}
use Rattle.encryption_profiles.proofs.Laws.{HasLaws}
use Rattle.encryption_profiles.proofs.Stolen.{has_stolen, stolen-bytes}
use Rattle.encryption_profiles.specs.AesSha2Suites.{aes_sha2_profile}
use Rattle.encryption_profiles.proofs.Macs.{derived_key-bytes, derived_key-sized, length-sha2_tag_of}

-- under a key of a usage AES is undone
usage_pair : (size : AesSize) (key : List ℕ) (usage : ℕ) → IsBlockCipher 16 (aes_cipher (ke_of (aes_sha2_profile size) key usage)) (aes_inverse (ke_of (aes_sha2_profile size) key usage))
usage_pair size key usage =
    let ke : List ℕ = ke_of (aes_sha2_profile size) key usage in
    aes_block_cipher ke (IsAesKey-of_size size ke (derived_key-sized size key (usage_constant usage 0xAA))) (derived_key-bytes size (key_length_of size) key (usage_constant usage 0xAA))

one_stolen : (size : AesSize) (key : List ℕ) (usage : ℕ) (s t c : List ℕ) → IsBytes s → IsBytes t → 16 ≤ length s → 16 ≤ length t
    → IsStolen 16 (aes_cipher (ke_of (aes_sha2_profile size) key usage)) s c → IsStolen 16 (aes_cipher (ke_of (aes_sha2_profile size) key usage)) t c → s ≡ t
one_stolen size key usage s t c s_bytes t_bytes s_long t_long first second =
    let E : List ℕ → List ℕ = aes_cipher (ke_of (aes_sha2_profile size) key usage) in
    let D : List ℕ → List ℕ = aes_inverse (ke_of (aes_sha2_profile size) key usage) in
    let pair = usage_pair size key usage in
    stolen_text 16 E D pair s t c s_bytes t_bytes (stolen-bytes 16 E D pair s c s_bytes first) s_long t_long first second

pub aes_sha2_laws : (size : AesSize) → HasLaws (aes_sha2_profile size)
aes_sha2_laws size = record {
  tag_sized = length-sha2_tag_of size;
  filled_bytes = λ text bytes. bytes;
  filled_behind = λ conf plain sized. refl;
  filled_front = λ text. ([], sym (append-nil text));
  filled_again = λ text. refl;
  one_cipher = λ key text c d long first second. stolen_function 16 (aes_cipher key) text c d (omega arith) first second;
  cipher_sized = λ key text c long stolen. length-stolen 16 (aes_cipher key) text c (omega arith) long stolen;
  one_text = λ key usage sized bytes. one_stolen size key usage;
  has_cipher = λ key usage sized bytes s s_bytes.
      has_stolen 16 (aes_cipher (ke_of (aes_sha2_profile size) key usage)) (aes_inverse (ke_of (aes_sha2_profile size) key usage)) (usage_pair size key usage) s s_bytes;
}
