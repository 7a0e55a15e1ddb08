-- DES and triple DES are ciphers of blocks of eight bytes.
use Rattle.std.proofs.Common.{◌≡◌, ◌<◌, ◌≤◌, ◌+◌, ◌-◌, ◌*◌, ◌/◌, ◌^◌, ℕ, zero, suc, List, [], ◌∷◌, ◌++◌, length, get_or, take, drop, reverse, slice_index, refl, sym, ap, ◌∙◌, inl, inr, arith, lit<}
use Rattle.std.specs.List.{flat_map, range_with_len}
use Rattle.std.proofs.lemmas.Bool.{cases_lt}
use Rattle.std.proofs.lemmas.Nat.{xor_lt}
use Rattle.std.proofs.lemmas.List.{ext_get_or, get_or_past, get_or_append_left, get_or-append_right, length-append, get_or-take, get_or-drop, length-take-le, length-drop, take_at, drop_at, drop-drop, reverse-reverse}
use Rattle.std.proofs.lemmas.List.FromFn.{get_or-map-range_with_len, length-map-range_with_len}
use Rattle.block_ciphers.specs.Bytes.{IsBytes, IsBlock}
use Rattle.block_ciphers.specs.Chains.{block_at, IsBlockCipher}
use Rattle.block_ciphers.proofs.States.{get_or-sum_of_bytes, length-sum_of_bytes, IsBytes-from_below}
use Rattle.block_ciphers.proofs.Blocks.{same_from_blocks}
use Rattle.block_ciphers.specs.Bits.{low_bits, number, bits_of_bytes, bytes_of_bits, permuted, sum_of_bits}
use Rattle.block_ciphers.specs.Tables.{initial_permutation, final_permutation, expansion, permutation}
use Rattle.block_ciphers.specs.Des.{selected, selected_by_all, cipher_function, round, rounds, exchanged, network, cipher_by, round_keys, des_cipher, des_inverse, part, triple_des_cipher, triple_des_inverse}
use Rattle.block_ciphers.proofs.BitStrings.{IsBits, length-low_bits, low_bits-lt, number-low_bits, number-lt, low_bits-number}
use Rattle.block_ciphers.proofs.Permutations.{IsBits-permuted, final-initial, initial-final, length-initial, length-final, length-permutation}
use Rattle.block_ciphers.proofs.Feistel.{length-rounds, length-exchanged, network_undone}

-- strings whose elements are bits
abbrev pub AreBits : List ℕ → Type 0
AreBits s = (i : ℕ) → slice_index s i < 2

pub AreBits-append : (s t : List ℕ) → AreBits s → AreBits t → AreBits (s ++ t)
AreBits-append s t first second i =
    elim (cases_lt i (length s)) [ inl h ↦ rw (get_or_append_left s t 0 i h) (first i) | inr h ↦ rw (get_or-append_right s t (length s) i 0 refl h) (second (i - length s)) ]

pub AreBits-none : AreBits []
AreBits-none i = lit< tt

pub AreBits-take : (n : ℕ) (s : List ℕ) → AreBits s → AreBits (take n s)
AreBits-take n s bits i =
    elim (cases_lt i n) [
      | inl h ↦ rw (get_or-take n s i 0 h) (bits i)
      | inr h ↦ (let past : get_or (take n s) i 0 ≡ 0 = get_or_past (take n s) i 0 (omega (arith, length-take_most n s)) in omega arith)
    ]
  where
    length-take_most : (n : ℕ) (s : List ℕ) → length (take n s) ≤ n
    length-take_most zero s = omega arith
    length-take_most (suc n) [] = omega arith
    length-take_most (suc n) (x ∷ s) = omega (arith, length-take_most n s)

pub AreBits-drop : (n : ℕ) (s : List ℕ) → AreBits s → AreBits (drop n s)
AreBits-drop n s bits i = rw (get_or-drop n s i 0) (bits (n + i))

pub AreBits-sum : (n : ℕ) (a b : List ℕ) → AreBits a → AreBits b → AreBits (sum_of_bits n a b)
AreBits-sum n a b first second i =
    elim (cases_lt i n) [
      | inl h ↦ rw (get_or-sum_of_bytes n a b i h) (xor_lt 1 (get_or a i 0) (get_or b i 0) (first i) (second i))
      | inr h ↦ (let past : get_or (sum_of_bits n a b) i 0 ≡ 0 = get_or_past (sum_of_bits n a b) i 0 (omega (arith, length-sum_of_bytes n a b)) in omega arith)
    ]

-- bytes as bits, and back
pub length-bits_of_bytes : (s : List ℕ) → length (bits_of_bytes s) ≡ 8 * length s
unfolding bits_of_bytes
length-bits_of_bytes [] = refl
length-bits_of_bytes (b ∷ s) = omega (arith, length-append (low_bits 8 b) (bits_of_bytes s), length-low_bits 8 b, length-bits_of_bytes s)

pub AreBits-bits_of_bytes : (s : List ℕ) → AreBits (bits_of_bytes s)
unfolding bits_of_bytes
AreBits-bits_of_bytes [] = AreBits-none
AreBits-bits_of_bytes (b ∷ s) = AreBits-append (low_bits 8 b) (bits_of_bytes s) (low_bits-lt 8 b) (AreBits-bits_of_bytes s)

pub block_at-bits_of_bytes : (s : List ℕ) (i : ℕ) → i < length s → block_at 8 (bits_of_bytes s) i ≡ low_bits 8 (get_or s i 0)
unfolding bits_of_bytes
block_at-bits_of_bytes [] i h = absurd (omega arith)
block_at-bits_of_bytes (b ∷ s) zero h = take_at (low_bits 8 b) (bits_of_bytes s) 8 (length-low_bits 8 b)
block_at-bits_of_bytes (b ∷ s) (suc i) h =
    let more : 8 * suc i ≡ 8 + 8 * i = omega arith in
    rw (more, sym (drop-drop (8 * i) 8 (low_bits 8 b ++ bits_of_bytes s)), drop_at (low_bits 8 b) (bits_of_bytes s) 8 (length-low_bits 8 b)) (block_at-bits_of_bytes s i (omega arith))

pub length-bytes_of_bits : (n : ℕ) (s : List ℕ) → length s ≡ 8 * n → length (bytes_of_bits s) ≡ n
unfolding bytes_of_bits
length-bytes_of_bits n s sized = length-map-range_with_len (λ i. number (block_at 8 s i)) 0 (length s / 8) ∙ omega arith

pub get_or-bytes_of_bits : (n : ℕ) (s : List ℕ) (i : ℕ) → length s ≡ 8 * n → i < n → get_or (bytes_of_bits s) i 0 ≡ number (block_at 8 s i)
unfolding bytes_of_bits
get_or-bytes_of_bits n s i sized h = get_or-map-range_with_len (λ i. number (block_at 8 s i)) 0 (length s / 8) i i 0 (omega arith) (omega arith)

pub bytes_of_bits-bits_of_bytes : (s : List ℕ) → IsBytes s → bytes_of_bits (bits_of_bytes s) ≡ s
bytes_of_bits-bits_of_bytes s bytes =
    ext_get_or 0 (bytes_of_bits (bits_of_bytes s)) s (length-bytes_of_bits (length s) (bits_of_bytes s) (length-bits_of_bytes s))
    (λ i h.
    let within : i < length s = omega (arith, length-bytes_of_bits (length s) (bits_of_bytes s) (length-bits_of_bytes s)) in
    let small : get_or s i 0 < 256 = bytes i in
    get_or-bytes_of_bits (length s) (bits_of_bytes s) i (length-bits_of_bytes s) within ∙ rw (block_at-bits_of_bytes s i within, number-low_bits 8 (get_or s i 0)) (omega arith))

-- eight bits of a string
IsBits-block_at : (n i : ℕ) (s : List ℕ) → length s ≡ 8 * n → AreBits s → i < n → IsBits 8 (block_at 8 s i)
IsBits-block_at n i s sized bits h =
    record { sized = length-take-le 8 (drop (8 * i) s) (omega (arith, length-drop (8 * i) s)); bits = AreBits-take 8 (drop (8 * i) s) (AreBits-drop (8 * i) s bits) }

pub bits_of_bytes-bytes_of_bits : (n : ℕ) (s : List ℕ) → length s ≡ 8 * n → AreBits s → bits_of_bytes (bytes_of_bits s) ≡ s
bits_of_bytes-bytes_of_bits n s sized bits =
    same_from_blocks 8 n (lit< tt) (bits_of_bytes (bytes_of_bits s)) s (length-bits_of_bytes (bytes_of_bits s) ∙ ap (λ (k : ℕ). 8 * k) (length-bytes_of_bits n s sized)) sized
    (λ i h.
    block_at-bits_of_bytes (bytes_of_bits s) i (omega (arith, length-bytes_of_bits n s sized))
    ∙ rw (get_or-bytes_of_bits n s i sized h) (low_bits-number 8 (block_at 8 s i) (IsBits-block_at n i s sized bits h)))

pub IsBlock-bytes_of_bits : (n : ℕ) (s : List ℕ) → length s ≡ 8 * n → AreBits s → IsBlock n (bytes_of_bits s)
IsBlock-bytes_of_bits n s sized bits =
    record {
      sized = length-bytes_of_bits n s sized;
      bytes = IsBytes-from_below (bytes_of_bits s) n (length-bytes_of_bits n s sized)
          (λ i h.
          let eight = IsBits-block_at n i s sized bits h in
          let small : number (block_at 8 s i) < 2 ^ 8 = (let fits = number-lt (block_at 8 s i) eight.bits in rw eight.sized at fits) in
          rw (get_or-bytes_of_bits n s i sized h) small);
    }

-- the cipher function gives bits
AreBits-selected : (k : ℕ) (s : List ℕ) → AreBits (selected k s)
unfolding selected
AreBits-selected k s = low_bits-lt 4 _

AreBits-selected_from : (s : List ℕ) (ks : List ℕ) → AreBits (flat_map (λ k. selected k (block_at 6 s k)) ks)
AreBits-selected_from s [] = AreBits-none
AreBits-selected_from s (k ∷ ks) =
    AreBits-append (selected k (block_at 6 s k)) (flat_map (λ k. selected k (block_at 6 s k)) ks) (AreBits-selected k (block_at 6 s k)) (AreBits-selected_from s ks)

pub AreBits-cipher_function : (r k : List ℕ) → AreBits (cipher_function r k)
unfolding cipher_function selected_by_all
AreBits-cipher_function r k =
    let given = sum_of_bits 48 (permuted expansion r) k in
    (IsBits-permuted 32 permutation (flat_map (λ i. selected i (block_at 6 (sum_of_bits 48 (permuted expansion r) k) i)) (range_with_len 0 8)) length-permutation (AreBits-selected_from (sum_of_bits 48 (permuted expansion r) k) (range_with_len 0 8))).bits

AreBits-rounds : (keys : List (List ℕ)) (s : List ℕ) → AreBits s → AreBits (rounds cipher_function keys s)
unfolding rounds round
AreBits-rounds [] s bits = bits
AreBits-rounds (k ∷ keys) s bits =
    AreBits-rounds keys (drop 32 s ++ sum_of_bits 32 (take 32 s) (cipher_function (drop 32 s) k))
    (AreBits-append (drop 32 s) (sum_of_bits 32 (take 32 s) (cipher_function (drop 32 s) k)) (AreBits-drop 32 s bits)
    (AreBits-sum 32 (take 32 s) (cipher_function (drop 32 s) k) (AreBits-take 32 s bits) (AreBits-cipher_function (drop 32 s) k)))

AreBits-exchanged : (s : List ℕ) → AreBits s → AreBits (exchanged s)
unfolding exchanged
AreBits-exchanged s bits = AreBits-append (drop 32 s) (take 32 s) (AreBits-drop 32 s bits) (AreBits-take 32 s bits)

-- the network on the bits of a block, and its result permuted
IsBits-initial : (block : List ℕ) → IsBits 64 (permuted initial_permutation (bits_of_bytes block))
IsBits-initial block = IsBits-permuted 64 initial_permutation (bits_of_bytes block) length-initial (AreBits-bits_of_bytes block)

IsBits-network : (keys : List (List ℕ)) (s : List ℕ) → IsBits 64 s → IsBits 64 (network cipher_function keys s)
IsBits-network keys s bits =
    record {
      sized = length-exchanged (rounds cipher_function keys s) (length-rounds cipher_function keys s bits.sized);
      bits = AreBits-exchanged (rounds cipher_function keys s) (AreBits-rounds keys s bits.bits);
    }

IsBits-final : (s : List ℕ) → IsBits 64 s → IsBits 64 (permuted final_permutation s)
IsBits-final s bits = IsBits-permuted 64 final_permutation s length-final bits.bits

-- the bits of what the cipher gives
pub bits-cipher_by : (keys : List (List ℕ)) (block : List ℕ) → bits_of_bytes (cipher_by keys block) ≡ permuted final_permutation (network cipher_function keys (permuted initial_permutation (bits_of_bytes block)))
unfolding cipher_by
bits-cipher_by keys block =
    let end = IsBits-final (network cipher_function keys (permuted initial_permutation (bits_of_bytes block))) (IsBits-network keys (permuted initial_permutation (bits_of_bytes block)) (IsBits-initial block)) in
    bits_of_bytes-bytes_of_bits 8 (permuted final_permutation (network cipher_function keys (permuted initial_permutation (bits_of_bytes block)))) end.sized end.bits

pub cipher_by-block : (keys : List (List ℕ)) (block : List ℕ) → IsBlock 8 (cipher_by keys block)
unfolding cipher_by
cipher_by-block keys block =
    let end = IsBits-final (network cipher_function keys (permuted initial_permutation (bits_of_bytes block))) (IsBits-network keys (permuted initial_permutation (bits_of_bytes block)) (IsBits-initial block)) in
    IsBlock-bytes_of_bits 8 (permuted final_permutation (network cipher_function keys (permuted initial_permutation (bits_of_bytes block)))) end.sized end.bits

-- what a permutation at the end leaves undone for the one at the beginning
pub between : (keys : List (List ℕ)) (block : List ℕ) → permuted initial_permutation (bits_of_bytes (cipher_by keys block)) ≡ network cipher_function keys (permuted initial_permutation (bits_of_bytes block))
between keys block =
    rw (bits-cipher_by keys block)
    (initial-final (network cipher_function keys (permuted initial_permutation (bits_of_bytes block))) (IsBits-network keys (permuted initial_permutation (bits_of_bytes block)) (IsBits-initial block)).sized)

written : (keys : List (List ℕ)) (block : List ℕ) → cipher_by keys block ≡ bytes_of_bits (permuted final_permutation (network cipher_function keys (permuted initial_permutation (bits_of_bytes block))))
unfolding cipher_by
written keys block = refl

cipher_by-undone : (keys : List (List ℕ)) (block : List ℕ) → IsBlock 8 block → cipher_by (reverse keys) (cipher_by keys block) ≡ block
cipher_by-undone keys block h =
    written (reverse keys) (cipher_by keys block)
    ∙ rw (between keys block, network_undone cipher_function keys (permuted initial_permutation (bits_of_bytes block)) (IsBits-initial block).sized, final-initial (bits_of_bytes block) (length-bits_of_bytes block ∙ ap (λ (k : ℕ). 8 * k) h.sized))
    (bytes_of_bits-bits_of_bytes block h.bytes)

-- any round keys make a cipher of blocks, and in reverse order what undoes it
pub cipher_by_pair : (keys : List (List ℕ)) → IsBlockCipher 8 (cipher_by keys) (cipher_by (reverse keys))
cipher_by_pair keys =
    record {
      some = lit< tt;
      cipher_block = λ s h. cipher_by-block keys s;
      inverse_block = λ s h. cipher_by-block (reverse keys) s;
      deciphered = λ s h. cipher_by-undone keys s h;
      enciphered = λ s h. rw (reverse-reverse keys) at (cipher_by-undone (reverse keys) s h);
    }

pub IsBlockCipher-undone : (size : ℕ) (E D : List ℕ → List ℕ) → IsBlockCipher size E D → IsBlockCipher size D E
IsBlockCipher-undone size E D pair =
    record { some = pair.some; cipher_block = pair.inverse_block; inverse_block = pair.cipher_block; deciphered = pair.enciphered; enciphered = pair.deciphered }

-- two ciphers in turn
pub IsBlockCipher-then :
    (size : ℕ) (E D F G : List ℕ → List ℕ) → IsBlockCipher size E D → IsBlockCipher size F G → IsBlockCipher size (λ s. F (E s)) (λ s. D (G s))
IsBlockCipher-then size E D F G first second =
    record {
      some = first.some;
      cipher_block = λ s h. second.cipher_block (E s) (first.cipher_block s h);
      inverse_block = λ s h. first.inverse_block (G s) (second.inverse_block s h);
      deciphered = λ s h. rw (second.deciphered (E s) (first.cipher_block s h)) (first.deciphered s h);
      enciphered = λ s h. rw (first.enciphered (G s) (second.inverse_block s h)) (second.enciphered s h);
    }

-- DES under a key
pub des_pair : (key : List ℕ) → IsBlockCipher 8 (des_cipher key) (des_inverse key)
unfolding des_cipher des_inverse
des_pair key = cipher_by_pair (round_keys key)

-- triple DES under a key
pub triple_des_pair : (key : List ℕ) → IsBlockCipher 8 (triple_des_cipher key) (triple_des_inverse key)
unfolding triple_des_cipher triple_des_inverse
triple_des_pair key =
    IsBlockCipher-then 8 (λ s. des_inverse (part key 1) (des_cipher (part key 0) s)) (λ s. des_inverse (part key 0) (des_cipher (part key 1) s)) (des_cipher (part key 2)) (des_inverse (part key 2))
    (IsBlockCipher-then 8 (des_cipher (part key 0)) (des_inverse (part key 0)) (des_inverse (part key 1)) (des_cipher (part key 1)) (des_pair (part key 0)) (IsBlockCipher-undone 8 (des_cipher (part key 1)) (des_inverse (part key 1)) (des_pair (part key 1))))
    (des_pair (part key 2))
