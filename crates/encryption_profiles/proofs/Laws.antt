-- What holds of the cipher of each suite, and carries the laws of sealing.
use Rattle.std.proofs.Common.{◌≡◌, ◌≤◌, ℕ, List, ◌++◌, length}
use Rattle.block_ciphers.specs.Bytes.{IsBytes}
use Rattle.encryption_profiles.specs.Profile.{Profile, ke_of}

pub record HasLaws (profile : Profile) : Type 0 where
  pub tag_sized : (key text : List ℕ) → length (profile.tag key text) ≡ profile.tag_size
  -- padding follows the text, whose first block is the confounder; a padded text is its own padded form
  pub filled_bytes : (text : List ℕ) → IsBytes text → IsBytes (profile.filled text)
  pub filled_behind : (conf plain : List ℕ) → length conf ≡ profile.confounder_size → profile.filled (conf ++ plain) ≡ conf ++ profile.filled plain
  pub filled_front : (text : List ℕ) → (rest : List ℕ) × (profile.filled text ≡ text ++ rest)
  pub filled_again : (text : List ℕ) → profile.filled (profile.filled text) ≡ profile.filled text
  -- a key encrypts a text to one string, as long as the padded text; a key of a usage encrypts each text, and different padded texts to different strings
  pub one_cipher : (key text c d : List ℕ) → profile.confounder_size ≤ length text → profile.encrypts key (profile.filled text) c → profile.encrypts key (profile.filled text) d → c ≡ d
  pub cipher_sized : (key text c : List ℕ) → profile.confounder_size ≤ length text → profile.encrypts key (profile.filled text) c → length c ≡ length (profile.filled text)
  pub one_text : (key : List ℕ) (usage : ℕ) → length key ≡ profile.key_size → IsBytes key → (s t c : List ℕ) → IsBytes s → IsBytes t → profile.confounder_size ≤ length s → profile.confounder_size ≤ length t
      → profile.encrypts (ke_of profile key usage) (profile.filled s) c → profile.encrypts (ke_of profile key usage) (profile.filled t) c → profile.filled s ≡ profile.filled t
  pub has_cipher : (key : List ℕ) (usage : ℕ) → length key ≡ profile.key_size → IsBytes key → (s : List ℕ) → IsBytes s
      → (c : List ℕ) × profile.encrypts (ke_of profile key usage) (profile.filled s) c
