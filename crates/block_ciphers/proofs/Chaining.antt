-- A loop that enciphers or deciphers a chain block by block, and that a chain is one to one.
use Rattle.std.proofs.Common.{◌≡◌, ◌<◌, ◌+◌, ◌*◌, ℕ, zero, suc, List, [], ◌++◌, length, replicate, refl, sym, ap, ◌∙◌, inl, inr, arith, add-one}
use Rattle.std.proofs.Math.Nat.{mul-lt-mul_of_pos_left}
use Rattle.std.proofs.lemmas.Bool.{cases_lt}
use Rattle.std.proofs.lemmas.List.{length-append}
use Rattle.block_ciphers.specs.Bytes.{IsBytes, IsBlock, sum_of_bytes}
use Rattle.block_ciphers.specs.Chains.{block_at, before, IsChained, IsBlockCipher}
use Rattle.block_ciphers.proofs.States.{length-sum_of_bytes, sum_of_bytes-block, sum_of_bytes-twice}
use Rattle.block_ciphers.proofs.Blocks.{IsBytes-replicate, IsBytes-from_blocks, block_below, block_at-front, block_at-last, before-front, before-last, same_from_blocks, block_at-block, before-bytes}

-- the first n blocks of a chain, and what is added to the next one
pub record ChainsTo (size : ℕ) (E : List ℕ → List ℕ) (p out last : List ℕ) (n : ℕ) : Type 0 where
  pub long : length out ≡ size * n
  pub last_is : last ≡ before size out n
  pub each : (k : ℕ) → k < n → block_at size out k ≡ E (sum_of_bytes size (block_at size p k) (before size out k))

pub chain_start : (size : ℕ) (E : List ℕ → List ℕ) (p : List ℕ) → ChainsTo size E p [] (replicate size 0) 0
unfolding before
chain_start size E p = record { long = omega arith; last_is = refl; each = λ k h. absurd (omega arith) }

pub chain_next :
    (size : ℕ) (E : List ℕ → List ℕ) (p out last : List ℕ) (n m : ℕ) (b : List ℕ) → ChainsTo size E p out last n → length b ≡ size → b ≡ E (sum_of_bytes size (block_at size p n) last) → m ≡ n + 1
    → ChainsTo size E p (out ++ b) b m
chain_next size E p out last n m b so_far sized is next =
    record {
      long = rw next (omega (arith, length-append out b, so_far.long));
      last_is = sym (before-last size out b n m so_far.long sized next);
      each =
          λ k h.
          elim (cases_lt k n) [
            | inl below ↦ rw (block_at-front size out b k n so_far.long below, before-front size out b k n so_far.long (omega arith)) (so_far.each k below)
            | inr here ↦ (let same : k ≡ n = omega arith in rw (same, block_at-last size out b n so_far.long sized, before-front size out b n n so_far.long (omega arith), sym so_far.last_is) is)
          ];
    }

pub chain_end : (size : ℕ) (E : List ℕ → List ℕ) (p out last : List ℕ) (n : ℕ) → ChainsTo size E p out last n → length p ≡ size * n → IsChained size E p out
chain_end size E p out last n so_far whole =
    record { same_length = so_far.long ∙ sym whole; each = λ i h. so_far.each i (block_below size i n (omega arith)) }

-- the first n blocks of what is deciphered from the chain c
pub record UnchainsTo (size : ℕ) (D : List ℕ → List ℕ) (c out last : List ℕ) (n : ℕ) : Type 0 where
  pub long : length out ≡ size * n
  pub last_is : last ≡ before size c n
  pub each : (k : ℕ) → k < n → block_at size out k ≡ sum_of_bytes size (D (block_at size c k)) (before size c k)

pub unchain_start : (size : ℕ) (D : List ℕ → List ℕ) (c : List ℕ) → UnchainsTo size D c [] (replicate size 0) 0
unfolding before
unchain_start size D c = record { long = omega arith; last_is = refl; each = λ k h. absurd (omega arith) }

pub unchain_next :
    (size : ℕ) (D : List ℕ → List ℕ) (c out last : List ℕ) (n m : ℕ) (b next_last : List ℕ) → UnchainsTo size D c out last n → b ≡ sum_of_bytes size (D (block_at size c n)) last → next_last ≡ block_at size c n → m ≡ n + 1
    → UnchainsTo size D c (out ++ b) next_last m
unfolding before
unchain_next size D c out last n m b next_last so_far is at next =
    let sized : length b ≡ size = ap length is ∙ length-sum_of_bytes size (D (block_at size c n)) last in
    record {
      long = rw next (omega (arith, length-append out b, so_far.long));
      last_is = rw (next, add-one n) at;
      each =
          λ k h.
          elim (cases_lt k n) [
            | inl below ↦ rw (block_at-front size out b k n so_far.long below) (so_far.each k below)
            | inr here ↦ (let same : k ≡ n = omega arith in rw (same, block_at-last size out b n so_far.long sized, sym so_far.last_is) is)
          ];
    }

-- a chain is a function of its text
pub chained_function : (size n : ℕ) → 0 < size → (E : List ℕ → List ℕ) (p c d : List ℕ) → length p ≡ size * n → IsChained size E p c → IsChained size E p d → c ≡ d
unfolding before
chained_function size n some E p c d whole first second =
    same_from_blocks size n some c d (first.same_length ∙ whole) (second.same_length ∙ whole) same
  where
    inside : (i : ℕ) → i < n → size * i < length p
    inside i h = omega (arith, whole, mul-lt-mul_of_pos_left h some)

    same : (i : ℕ) → i < n → block_at size c i ≡ block_at size d i
    same zero h = first.each 0 (inside 0 h) ∙ sym (second.each 0 (inside 0 h))
    same (suc i) h =
        first.each (suc i) (inside (suc i) h) ∙ ap (λ (b : List ℕ). E (sum_of_bytes size (block_at size p (suc i)) b)) (same i (omega arith)) ∙ sym (second.each (suc i) (inside (suc i) h))

module _ (size : ℕ) (E D : List ℕ → List ℕ) (pair : IsBlockCipher size E D) where
  pub unchain_end : (c out last : List ℕ) (n : ℕ) → IsBytes c → UnchainsTo size D c out last n → length c ≡ size * n → IsChained size E out c
  unchain_end c out last n bytes so_far whole =
      record {
        same_length = whole ∙ sym so_far.long;
        each =
            λ i h.
            let below : i < n = block_below size i n (omega (arith, so_far.long)) in
            let block : IsBlock size (block_at size c i) = block_at-block size n i c bytes whole below in
            sym (rw (so_far.each i below, sum_of_bytes-twice size (D (block_at size c i)) (before size c i) (pair.inverse_block (block_at size c i) block).sized) (pair.enciphered (block_at size c i) block));
      }

  -- what is deciphered is bytes
  pub unchain-bytes : (c out last : List ℕ) (n : ℕ) → IsBytes c → UnchainsTo size D c out last n → length c ≡ size * n → IsBytes out
  unchain-bytes c out last n bytes so_far whole =
      IsBytes-from_blocks size n pair.some out so_far.long
      (λ i below.
      let block : IsBlock size (block_at size c i) = block_at-block size n i c bytes whole below in
      rw (so_far.each i below) (sum_of_bytes-block size (D (block_at size c i)) (before size c i) (pair.inverse_block (block_at size c i) block).bytes (before-bytes size c i bytes)).bytes)

  -- a chain with one block more, and its text
  pub unchain_more :
      (p c y b last : List ℕ) (n : ℕ) → length c ≡ size * n → IsChained size E p c → IsBlock size y → last ≡ before size c n → b ≡ sum_of_bytes size (D y) last
      → IsChained size E (p ++ b) (c ++ y)
  unchain_more p c y b last n whole chained block at is =
      let sized : length b ≡ size = ap length is ∙ length-sum_of_bytes size (D y) last in
      let text : length p ≡ size * n = sym chained.same_length ∙ whole in
      let long : length (p ++ b) ≡ size * (n + 1) = omega (arith, length-append p b) in
      record {
        same_length = omega (arith, length-append c y, length-append p b, block.sized);
        each =
            λ i h.
            let below : i < n + 1 = block_below size i (n + 1) (omega arith) in
            elim (cases_lt i n) [
              | inl before_it ↦
                  rw (block_at-front size c y i n whole before_it, block_at-front size p b i n text before_it, before-front size c y i n whole (omega arith))
                  (chained.each i (omega (arith, text, mul-lt-mul_of_pos_left before_it pair.some)))
              | inr here ↦
                  (let same : i ≡ n = omega arith in
                  rw (same, block_at-last size c y n whole block.sized, block_at-last size p b n text sized, before-front size c y n n whole (omega arith), sym at, is)
                  (sym (rw (sum_of_bytes-twice size (D y) last (pair.inverse_block y block).sized) (pair.enciphered y block))))
            ];
      }

  -- a chain of bytes is bytes
  chain_block : (p c : List ℕ) (n : ℕ) → IsBytes p → length p ≡ size * n → IsChained size E p c → (i : ℕ) → i < n → IsBlock size (block_at size c i)
  unfolding before
  chain_block p c n bytes whole chained zero below =
      let text : IsBlock size (block_at size p 0) = block_at-block size n 0 p bytes whole below in
      rw (chained.each 0 (omega (arith, whole, mul-lt-mul_of_pos_left below pair.some)))
      (pair.cipher_block (sum_of_bytes size (block_at size p 0) (replicate size 0)) (sum_of_bytes-block size (block_at size p 0) (replicate size 0) text.bytes (IsBytes-replicate size)))
  chain_block p c n bytes whole chained (suc i) below =
      let text : IsBlock size (block_at size p (suc i)) = block_at-block size n (suc i) p bytes whole below in
      let last : IsBlock size (block_at size c i) = chain_block p c n bytes whole chained i (omega arith) in
      rw (chained.each (suc i) (omega (arith, whole, mul-lt-mul_of_pos_left below pair.some)))
      (pair.cipher_block (sum_of_bytes size (block_at size p (suc i)) (block_at size c i)) (sum_of_bytes-block size (block_at size p (suc i)) (block_at size c i) text.bytes last.bytes))

  pub chain-bytes : (p c : List ℕ) (n : ℕ) → IsBytes p → length p ≡ size * n → IsChained size E p c → IsBytes c
  chain-bytes p c n bytes whole chained =
      IsBytes-from_blocks size n pair.some c (chained.same_length ∙ whole) (λ i below. (chain_block p c n bytes whole chained i below).bytes)

  -- the text's blocks, read back from the chain
  pub text_block : (p c : List ℕ) (n i : ℕ) → IsBytes p → IsBytes c → length p ≡ size * n → IsChained size E p c → i < n → sum_of_bytes size (D (block_at size c i)) (before size c i) ≡ block_at size p i
  text_block p c n i p_bytes c_bytes whole chained below =
      let block : IsBlock size (block_at size p i) = block_at-block size n i p p_bytes whole below in
      let sum : IsBlock size (sum_of_bytes size (block_at size p i) (before size c i)) = sum_of_bytes-block size (block_at size p i) (before size c i) block.bytes (before-bytes size c i c_bytes) in
      let inside : size * i < length p = omega (arith, whole, mul-lt-mul_of_pos_left below pair.some) in
      rw (chained.each i inside, pair.deciphered (sum_of_bytes size (block_at size p i) (before size c i)) sum) (sum_of_bytes-twice size (block_at size p i) (before size c i) block.sized)

  -- a text is determined by its chain
  pub chained_text : (p q c : List ℕ) (n : ℕ) → IsBytes p → IsBytes q → IsBytes c → length c ≡ size * n → IsChained size E p c → IsChained size E q c → p ≡ q
  chained_text p q c n p_bytes q_bytes c_bytes whole first second =
      let p_whole : length p ≡ size * n = sym first.same_length ∙ whole in
      let q_whole : length q ≡ size * n = sym second.same_length ∙ whole in
      same_from_blocks size n pair.some p q p_whole q_whole
      (λ i below. sym (text_block p c n i p_bytes c_bytes p_whole first below) ∙ text_block q c n i q_bytes c_bytes q_whole second below)
