-- The laws that carry sealing, of triple DES in a chain.
use Rattle.std.proofs.Common.{◌≡◌, ◌+◌, ◌-◌, ◌*◌, ◌%◌, ◌≤◌, ℕ, List, ◌++◌, length, replicate, refl, sym, ap, ◌∙◌, arith, lit<}
use Rattle.std.proofs.lemmas.List.{append_assoc, length-append}
use Rattle.block_ciphers.specs.Bytes.{IsBytes}
use Rattle.block_ciphers.specs.Chains.{IsBlockCipher, IsChained, block_count, zero_filled}
use Rattle.block_ciphers.proofs.Chaining.{chain-bytes, chained_function, chained_text}
use Rattle.block_ciphers.proofs.Stealing.{filled_already, length-zero_filled, zero_filled-bytes}
use Rattle.encryption_profiles.proofs.HmacLemmas.{length-hmac_of}
use Rattle.block_ciphers.specs.Des.{triple_des_cipher, triple_des_inverse}
use Rattle.block_ciphers.proofs.Laws.{triple_des_pair}
use Rattle.encryption_profiles.specs.Profile.{ke_of}
use Rattle.encryption_profiles.proofs.Chained.{has_chain}
use Rattle.encryption_profiles.proofs.Laws.{HasLaws}
use Rattle.encryption_profiles.specs.Suite.{des3_profile}

-- whole blocks need no padding
pub filled_whole : (s : List ℕ) → length s % 8 ≡ 0 → zero_filled 8 s ≡ s
filled_whole s whole = filled_already 8 s (omega (arith, whole))

-- the padding after confounder and text is the text's
filled_behind : (conf plain : List ℕ) → length conf ≡ 8 → zero_filled 8 (conf ++ plain) ≡ conf ++ zero_filled 8 plain
filled_behind conf plain sized =
    let long : length (conf ++ plain) ≡ 8 + length plain = length-append conf plain ∙ ap (λ (n : ℕ). n + length plain) sized in
    let missing : 8 * block_count 8 (length (conf ++ plain)) - length (conf ++ plain) ≡ 8 * block_count 8 (length plain) - length plain = omega (arith, long) in
    ap (λ (k : ℕ). (conf ++ plain) ++ replicate k 0) missing ∙ append_assoc conf plain (replicate (8 * block_count 8 (length plain) - length plain) 0)

-- a padded text needs no further padding
filled_again : (text : List ℕ) → zero_filled 8 (zero_filled 8 text) ≡ zero_filled 8 text
filled_again text =
    let long : length (zero_filled 8 text) ≡ 8 * block_count 8 (length text) = length-zero_filled 8 text (lit< tt) in
    filled_whole (zero_filled 8 text) (omega (arith, long))

-- under any key, texts that are chained to one string are the same once padded
one_chained : (key s t c : List ℕ) → IsBytes s → IsBytes t → IsChained 8 (triple_des_cipher key) (zero_filled 8 s) c → IsChained 8 (triple_des_cipher key) (zero_filled 8 t) c → zero_filled 8 s ≡ zero_filled 8 t
one_chained key s t c s_bytes t_bytes first second =
    let E : List ℕ → List ℕ = triple_des_cipher key in
    let D : List ℕ → List ℕ = triple_des_inverse key in
    let pair : IsBlockCipher 8 (triple_des_cipher key) (triple_des_inverse key) = triple_des_pair key in
    let n : ℕ = block_count 8 (length s) in
    let text_len : length (zero_filled 8 s) ≡ 8 * n = length-zero_filled 8 s (lit< tt) in
    let cut : length c ≡ 8 * n = first.same_length ∙ text_len in
    let filled = zero_filled-bytes 8 s s_bytes in
    let cipher_bytes = chain-bytes 8 E D pair (zero_filled 8 s) c n filled text_len first in
    chained_text 8 E D pair (zero_filled 8 s) (zero_filled 8 t) c n filled (zero_filled-bytes 8 t t_bytes) cipher_bytes cut first second

pub des3_laws : HasLaws des3_profile
des3_laws = record {
  tag_sized = length-hmac_of 64;
  filled_bytes = zero_filled-bytes 8;
  filled_behind = filled_behind;
  filled_front = λ text. (replicate (8 * block_count 8 (length text) - length text) 0, refl);
  filled_again = filled_again;
  one_cipher = λ key text c d long first second.
      chained_function 8 (block_count 8 (length text)) (lit< tt) (triple_des_cipher key) (zero_filled 8 text) c d (length-zero_filled 8 text (lit< tt)) first second;
  cipher_sized = λ key text c long chained. chained.same_length;
  one_text = λ key usage sized bytes s t c s_bytes t_bytes s_long t_long first second.
      one_chained (ke_of des3_profile key usage) s t c s_bytes t_bytes first second;
  has_cipher = λ key usage sized bytes s s_bytes.
      has_chain 8 (triple_des_cipher (ke_of des3_profile key usage)) (triple_des_inverse (ke_of des3_profile key usage)) (triple_des_pair (ke_of des3_profile key usage))
      (zero_filled 8 s) (block_count 8 (length s)) (zero_filled-bytes 8 s s_bytes) (length-zero_filled 8 s (lit< tt));
}
