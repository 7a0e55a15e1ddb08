-- Each text of whole blocks has a chain, and a constant's iterated ciphers are whole blocks.
use Rattle.std.proofs.Common.{◌≡◌, ◌*◌, ℕ, zero, suc, List, [], ◌++◌, length, drop, replicate, refl, ap, ◌∙◌, arith}
use Rattle.std.proofs.lemmas.List.{length-append}
use Rattle.std.specs.Int.{bytes_high_first}
use Rattle.block_ciphers.specs.Bytes.{IsBlock, IsBytes, sum_of_bytes}
use Rattle.block_ciphers.specs.Chains.{IsBlockCipher, IsChained, block_at}
use Rattle.block_ciphers.proofs.Blocks.{IsBytes-replicate}
use Rattle.block_ciphers.proofs.Chaining.{ChainsTo, chain_end, chain_next, chain_start}
use Rattle.block_ciphers.proofs.States.{IsBytes-append, IsBytes-drop, IsBytes-none, IsBytes-take, sum_of_bytes-block}
use Rattle.encryption_profiles.specs.NFold.{folded, n_fold_of}
use Rattle.encryption_profiles.specs.Derivation.{iterated_ciphers}

module _ (size : ℕ) (E D : List ℕ → List ℕ) (pair : IsBlockCipher size E D) where
  -- the first n blocks of a chain
  chain_of : (p : List ℕ) → IsBytes p → (n : ℕ) → (out last : List ℕ) × IsBytes last × ChainsTo size E p out last n
  chain_of p bytes zero = ([], replicate size 0, IsBytes-replicate size, chain_start size E p)
  chain_of p bytes (suc n) =
      let so_far = chain_of p bytes n in
      let last : List ℕ = so_far.1 in
      let text = IsBytes-take size (drop (size * n) p) (IsBytes-drop (size * n) p bytes) in
      let next : List ℕ = E (sum_of_bytes size (block_at size p n) last) in
      let block : IsBlock size next = pair.cipher_block (sum_of_bytes size (block_at size p n) last) (sum_of_bytes-block size (block_at size p n) last text so_far.2) in
      (so_far.0 ++ next, next, block.bytes, chain_next size E p so_far.0 last n (suc n) next so_far.3 block.sized refl (omega arith))

  pub has_chain : (p : List ℕ) (n : ℕ) → IsBytes p → length p ≡ size * n → (c : List ℕ) × IsChained size E p c
  has_chain p n bytes whole =
      let so_far = chain_of p bytes n in
      (so_far.0, chain_end size E p so_far.0 so_far.1 n so_far.3 whole)

-- the bytes of a number are bytes
bytes_high_first-bytes : (k n : ℕ) → IsBytes (bytes_high_first k n)
bytes_high_first-bytes zero n i = omega arith
bytes_high_first-bytes (suc zero) n zero = omega arith
bytes_high_first-bytes (suc (suc k)) n zero = omega arith
bytes_high_first-bytes (suc k) n (suc i) = bytes_high_first-bytes k n i

length-bytes_high_first : (k n : ℕ) → length (bytes_high_first k n) ≡ k
length-bytes_high_first zero n = refl
length-bytes_high_first (suc k) n = ap suc (length-bytes_high_first k n)

-- a constant folded to a block of AES
pub n_fold_of-block : (constant : List ℕ) → IsBlock 16 (n_fold_of constant 128)
unfolding n_fold_of
n_fold_of-block constant = record {
  sized = length-bytes_high_first 16 (folded constant 128);
  bytes = bytes_high_first-bytes 16 (folded constant 128);
}

-- the iterated ciphers are whole blocks of bytes
pub iterated_ciphers-blocks : (size : ℕ) (E : List ℕ → List ℕ) → ((s : List ℕ) → IsBlock size s → IsBlock size (E s)) → (n : ℕ) (x : List ℕ) → IsBlock size x
    → (length (iterated_ciphers E x n) ≡ size * n) × IsBytes (iterated_ciphers E x n)
unfolding iterated_ciphers
iterated_ciphers-blocks size E keeps zero x block = (omega arith, IsBytes-none)
iterated_ciphers-blocks size E keeps (suc n) x block =
    let next = keeps x block in
    let rest = iterated_ciphers-blocks size E keeps n (E x) next in
    (length-append (E x) (iterated_ciphers E (E x) n) ∙ omega (arith, next.sized, rest.0), IsBytes-append (E x) (iterated_ciphers E (E x) n) next.bytes rest.1)
