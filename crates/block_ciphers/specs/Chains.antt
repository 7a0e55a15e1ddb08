-- Cipher block chaining with an initial vector of zeros, and ciphertext stealing over it, for any cipher E of
-- blocks of `size` bytes. A text p and its cipher c are in a relation; nothing here deciphers.
use Rattle.std.specs.Prelude.{◌≡◌, ℕ, ◌+◌, ◌-◌, ◌*◌, ◌/◌, ◌<◌, ◌≤◌, zero, suc, List, ◌++◌, length, take, drop, replicate}
use Rattle.block_ciphers.specs.Bytes.{IsBlock, sum_of_bytes}

-- block i of a string, counted from 0
abbrev pub block_at : ℕ → List ℕ → ℕ → List ℕ
block_at size s i = take size (drop (size * i) s)

-- what is added to block i before the cipher: the cipher of the block before it, or zeros
unfoldable pub before : ℕ → List ℕ → ℕ → List ℕ
before size c zero = replicate size 0
before size c (suc i) = block_at size c i

-- c is the text p of whole blocks, enciphered in a chain (NIST SP 800-38A, section 6.2; RFC 3962, section 5)
pub record IsChained (size : ℕ) (E : List ℕ → List ℕ) (p c : List ℕ) : Type 0 where
  pub same_length : length c ≡ length p
  pub each : (i : ℕ) → size * i < length p → block_at size c i ≡ E (sum_of_bytes size (block_at size p i) (before size c i))

-- how many blocks hold n bytes
abbrev pub block_count : ℕ → ℕ → ℕ
block_count size n = (n + (size - 1)) / size

-- the text with zeros added up to whole blocks
abbrev pub zero_filled : ℕ → List ℕ → List ℕ
zero_filled size p = p ++ replicate (size * block_count size (length p) - length p) 0

-- the first n bytes of x once its last two blocks, m and m + 1, are exchanged
abbrev pub exchanged : ℕ → ℕ → ℕ → List ℕ → List ℕ
exchanged size m n x = take (size * m) x ++ block_at size x (m + 1) ++ take (n - size * (m + 1)) (block_at size x m)

-- Ciphertext stealing is CBC with an initial vector of zeros (RFC 3962, section 5). Up to one block, c is the cipher of the
-- zero-padded block. Of more, the last two blocks of the zero-padded text's chain are exchanged, even if the last one is whole. Then c is
-- its front, as long as the text p. Test: `cts` of `standards.txt`.
-- Ignored: the key's length where no octets are decrypted. Decryption refuses 1 to 15 octets (CipherLength), and then another length
-- of the key (KeyLength). Test: `short_stolen` of `refusals.rt`.
pub record IsStolen (size : ℕ) (E : List ℕ → List ℕ) (p c : List ℕ) : Type 0 where
  pub short : length p ≤ size → IsChained size E (zero_filled size p) c
  pub long : size < length p → (x : List ℕ) × IsChained size E (zero_filled size p) x × (c ≡ exchanged size (block_count size (length p) - 2) (length p) x)

-- a string of at least two blocks' bytes whose last two runs of `size` bytes are exchanged
abbrev pub swapped : ℕ → List ℕ → List ℕ
swapped size s = take (length s - 2 * size) s ++ drop (length s - size) s ++ take size (drop (length s - 2 * size) s)

-- E is a cipher of blocks, which D undoes
pub record IsBlockCipher (size : ℕ) (E D : List ℕ → List ℕ) : Type 0 where
  pub some : 0 < size
  pub cipher_block : (s : List ℕ) → IsBlock size s → IsBlock size (E s)
  pub inverse_block : (s : List ℕ) → IsBlock size s → IsBlock size (D s)
  pub deciphered : (s : List ℕ) → IsBlock size s → D (E s) ≡ s
  pub enciphered : (s : List ℕ) → IsBlock size s → E (D s) ≡ s

-- v is the cipher text c, completed by the end of the block whose cipher is block m, the last but one
pub record IsCompleted (size m : ℕ) (E : List ℕ → List ℕ) (c v : List ℕ) : Type 0 where
  pub under : List ℕ
  pub under_block : IsBlock size under
  pub stands : block_at size c m ≡ E under
  pub appended : v ≡ c ++ drop (length c - size * (m + 1)) under
