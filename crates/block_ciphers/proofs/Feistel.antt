-- A network of rounds undoes itself under the round keys in reverse order, whatever its round function is.
use Rattle.std.proofs.Common.{◌≡◌, ℕ, List, [], ◌∷◌, ◌++◌, length, take, drop, reverse, refl, sym, ap, ◌∙◌, arith}
use Rattle.std.proofs.lemmas.List.{length-take-le, length-drop, length-append, take_at, drop_at, take-append-drop, reverse-append}
use Rattle.block_ciphers.proofs.States.{length-sum_of_bytes, sum_of_bytes-twice}
use Rattle.block_ciphers.specs.Bits.{sum_of_bits}
use Rattle.block_ciphers.specs.Des.{round, rounds, exchanged, network}

pub exchanged_of : (l r : List ℕ) → length l ≡ 32 → exchanged (l ++ r) ≡ r ++ l
unfolding exchanged
exchanged_of l r sized = rw (drop_at l r 32 sized, take_at l r 32 sized) refl

pub round_of : (f : List ℕ → List ℕ → List ℕ) (k l r : List ℕ) → length l ≡ 32 → round f k (l ++ r) ≡ r ++ sum_of_bits 32 l (f r k)
unfolding round
round_of f k l r sized = rw (drop_at l r 32 sized, take_at l r 32 sized) refl

-- the halves of a block
pub length-left : (s : List ℕ) → length s ≡ 64 → length (take 32 s) ≡ 32
length-left s sized = length-take-le 32 s (omega arith)

pub length-right : (s : List ℕ) → length s ≡ 64 → length (drop 32 s) ≡ 32
length-right s sized = omega (arith, length-drop 32 s)

pub length-exchanged : (s : List ℕ) → length s ≡ 64 → length (exchanged s) ≡ 64
unfolding exchanged
length-exchanged s sized = omega (arith, length-append (drop 32 s) (take 32 s), length-left s sized, length-right s sized)

pub exchanged-exchanged : (s : List ℕ) → length s ≡ 64 → exchanged (exchanged s) ≡ s
unfolding exchanged
exchanged-exchanged s sized =
    exchanged_of (drop 32 s) (take 32 s) (length-right s sized) ∙ take-append-drop 32 s

module _ (f : List ℕ → List ℕ → List ℕ) where
  pub length-round : (k s : List ℕ) → length s ≡ 64 → length (round f k s) ≡ 64
  unfolding round
  length-round k s sized =
      omega (arith, length-append (drop 32 s) (sum_of_bits 32 (take 32 s) (f (drop 32 s) k)), length-right s sized, length-sum_of_bytes 32 (take 32 s) (f (drop 32 s) k))

  pub length-rounds : (keys : List (List ℕ)) (s : List ℕ) → length s ≡ 64 → length (rounds f keys s) ≡ 64
  unfolding rounds
  length-rounds [] s sized = sized
  length-rounds (k ∷ keys) s sized = length-rounds keys (round f k s) (length-round k s sized)

  pub rounds-append : (keys more_keys : List (List ℕ)) (s : List ℕ) → rounds f (keys ++ more_keys) s ≡ rounds f more_keys (rounds f keys s)
  unfolding rounds
  rounds-append [] more_keys s = refl
  rounds-append (k ∷ keys) more_keys s = rounds-append keys more_keys (round f k s)

  -- a round undone
  round_undone : (k s : List ℕ) → length s ≡ 64 → exchanged (round f k (exchanged (round f k s))) ≡ s
  round_undone k s sized =
      let l = take 32 s in
      let r = drop 32 s in
      let left : length (take 32 s) ≡ 32 = length-left s sized in
      let right : length (drop 32 s) ≡ 32 = length-right s sized in
      let sum : length (sum_of_bits 32 (take 32 s) (f (drop 32 s) k)) ≡ 32 = length-sum_of_bytes 32 (take 32 s) (f (drop 32 s) k) in
      let once : round f k s ≡ drop 32 s ++ sum_of_bits 32 (take 32 s) (f (drop 32 s) k) = ap (round f k) (sym (take-append-drop 32 s)) ∙ round_of f k (take 32 s) (drop 32 s) left in
      rw (once, exchanged_of (drop 32 s) (sum_of_bits 32 (take 32 s) (f (drop 32 s) k)) right, round_of f k (sum_of_bits 32 (take 32 s) (f (drop 32 s) k)) (drop 32 s) sum, sum_of_bytes-twice 32 (take 32 s) (f (drop 32 s) k) left, exchanged_of (drop 32 s) (take 32 s) right)
      (take-append-drop 32 s)

  -- the network undone
  pub network_undone : (keys : List (List ℕ)) (s : List ℕ) → length s ≡ 64 → network f (reverse keys) (network f keys s) ≡ s
  unfolding rounds
  network_undone [] s sized = exchanged-exchanged s sized
  network_undone (k ∷ keys) s sized =
      let next = round f k s in
      let next_sized : length (round f k s) ≡ 64 = length-round k s sized in
      let through : length (rounds f keys (round f k s)) ≡ 64 = length-rounds keys (round f k s) next_sized in
      let turned : length (exchanged (rounds f keys (round f k s))) ≡ 64 = length-exchanged (rounds f keys (round f k s)) through in
      let back : length (rounds f (reverse keys) (exchanged (rounds f keys (round f k s)))) ≡ 64 = length-rounds (reverse keys) (exchanged (rounds f keys (round f k s))) turned in
      let before : rounds f (reverse keys) (exchanged (rounds f keys (round f k s))) ≡ exchanged (round f k s) =
      sym (exchanged-exchanged (rounds f (reverse keys) (exchanged (rounds f keys (round f k s)))) back) ∙ ap exchanged (network_undone keys (round f k s) next_sized) in
      rw (reverse-append (k ∷ []) keys, rounds-append (reverse keys) (k ∷ []) (exchanged (rounds f keys (round f k s))), before) (round_undone k s sized)
