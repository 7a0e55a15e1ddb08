-- Words of four bytes, and the expansion of a key made of them.
use Rattle.std.proofs.Common.{◌%◌, ◌≢◌, ◌⊎◌, rules, tests, ◌≡◌, ◌==◌, ◌<◌, ◌≤◌, ◌+◌, ◌-◌, ◌*◌, ◌/◌, ℕ, zero, suc, true, List, [], ◌∷◌, ◌++◌, length, get_or, take, drop, set, map, slice_index, bit_xor, nat_lt, refl, add-one, ⊎_elim, lit<, Bool, false, if◌then◌else◌, ◌&&◌, sym, ap, ◌∙◌, arith}
use Rattle.std.specs.Int.{w32, to_be_bytes}
use Rattle.std.proofs.lemmas.Bool.{eqb-true}
use Rattle.std.proofs.lemmas.Nat.{le-div}
use Rattle.std.proofs.Math.Seq.{take-add}
use Rattle.std.proofs.lemmas.List.{ext_get_or, take_more_set, get_or-take, length-take-le, length-append, length-map, get_or-map}
use Rattle.block_ciphers.specs.Field.{sub_byte, field_product, product_below, remainder}
use Rattle.block_ciphers.specs.Bytes.{IsBytes, sum_of_bytes}
use Rattle.block_ciphers.specs.Aes.{IsAesKey, word, x_power, round_constant, turned_word, next_word, expansion, key_schedule}
use Rattle.block_ciphers.specs.Words.{bytes_of}
use Rattle.block_ciphers.specs.declared.aes.schedule.TheConstants.{ROUND_CONSTANTS}
use Rattle.block_ciphers.proofs.States.{length-sum_of_bytes, sum_of_bytes-block, IsBytes-from_below, IsBytes-take, IsBytes-drop, IsBytes-append}
use Rattle.block_ciphers.proofs.Tables.{product_small, sub_byte-lt}
use Rattle.block_ciphers.proofs.AllBytes.{all_below, all_below_at}
use Rattle.block_ciphers.proofs.Blocks.{sum_of_bytes-zeros}
use Rattle.block_ciphers.proofs.WordBytes.{bytes_of_sum, bytes_of-append, bytes_of-one, word-bytes_of}

constants : all_below (λ n. all_below (λ r. get_or (to_be_bytes w32 (slice_index ROUND_CONSTANTS n)) r 0 == get_or (round_constant (n + 1)) r 0) 4) 10 ≡ true
unfolding all_below field_product product_below remainder x_power
constants = refl

-- the constants of the code are the round constants
pub constant_at : (n : ℕ) → n < 10 → to_be_bytes w32 (slice_index ROUND_CONSTANTS n) ≡ round_constant (n + 1)
constant_at n small =
    ext_get_or 0 (to_be_bytes w32 (slice_index ROUND_CONSTANTS n)) (round_constant (n + 1)) refl
    (λ r h.
    let places = λ (n : ℕ). all_below (λ r. get_or (to_be_bytes w32 (slice_index ROUND_CONSTANTS n)) r 0 == get_or (round_constant (n + 1)) r 0) 4 in
    eqb-true _ _ (all_below_at (λ r. get_or (to_be_bytes w32 (slice_index ROUND_CONSTANTS n)) r 0 == get_or (round_constant (n + 1)) r 0) 4 r (all_below_at places 10 n constants small) h))

pub one_back : (i nk : ℕ) → 0 < nk → nk ≤ i → i / nk - 1 + 1 ≡ i / nk
one_back i nk some from = let first : 1 * nk ≤ i = omega arith in omega (arith, le-div 1 i nk some first)

-- the three cases of what is added to an earlier word, written out
pub turned_by_constant :
    (nk i k a b c d : ℕ) → i % nk ≡ 0 → to_be_bytes w32 k ≡ round_constant (i / nk)
    → sum_of_bytes 4 (map sub_byte (b ∷ c ∷ d ∷ a ∷ [])) (to_be_bytes w32 k) ≡ turned_word nk i (a ∷ b ∷ c ∷ d ∷ [])
unfolding turned_word
turned_by_constant nk i k a b c d whole constant = ap (sum_of_bytes 4 (map sub_byte (b ∷ c ∷ d ∷ a ∷ []))) constant ∙ rw whole refl

pub turned_by_substitution :
    (nk i a b c d : ℕ) → 6 < nk → i % nk ≡ 4 → sum_of_bytes 4 (map sub_byte (a ∷ b ∷ c ∷ d ∷ [])) (to_be_bytes w32 0) ≡ turned_word nk i (a ∷ b ∷ c ∷ d ∷ [])
unfolding turned_word
turned_by_substitution nk i a b c d long middle =
    let test : nat_lt 6 nk ≡ true = search rules in
    sum_of_bytes-zeros 4 (map sub_byte (a ∷ b ∷ c ∷ d ∷ [])) refl ∙ rw (middle, test) refl

pub not_turned : (nk i a b c d : ℕ) → i % nk ≢ 0 → (nk ≤ 6) ⊎ (i % nk ≢ 4) → a ∷ b ∷ c ∷ d ∷ [] ≡ turned_word nk i (a ∷ b ∷ c ∷ d ∷ [])
unfolding turned_word
not_turned nk i a b c d off plain = search (rules, tests)

-- the next word, as the code writes it in its place
pub word_written :
    (ws : List ℕ) (nk i t : ℕ) → i < length ws → 0 < nk → nk ≤ i → to_be_bytes w32 t ≡ turned_word nk i (to_be_bytes w32 (get_or ws (i - 1) 0))
    → bytes_of (take (i + 1) (set ws i (bit_xor (get_or ws (i - nk) 0) t))) ≡ bytes_of (take i ws) ++ next_word nk i (bytes_of (take i ws))
unfolding next_word
word_written ws nk i t inside some from turned =
    let x = bit_xor (get_or ws (i - nk) 0) t in
    let long : length (take i ws) ≡ i = length-take-le i ws (omega arith) in
    let read = λ (k : ℕ) (h : k < i). word-bytes_of (take i ws) k (omega arith) ∙ ap (to_be_bytes w32) (get_or-take i ws k 0 h) in
    ap bytes_of (take_more_set ws i x inside) ∙ bytes_of-append (take i ws) (x ∷ []) ∙ ap (λ (s : List ℕ). bytes_of (take i ws) ++ s) (bytes_of-one x)
    ∙ ap (λ (s : List ℕ). bytes_of (take i ws) ++ s)
    (bytes_of_sum (get_or ws (i - nk) 0) t ∙ ap (sum_of_bytes 4 (to_be_bytes w32 (get_or ws (i - nk) 0))) turned
    ∙ ap (λ (s : List ℕ). sum_of_bytes 4 s (turned_word nk i (to_be_bytes w32 (get_or ws (i - 1) 0)))) (sym (read (i - nk) (omega arith)))
    ∙ ap (λ (s : List ℕ). sum_of_bytes 4 (word (bytes_of (take i ws)) (i - nk)) (turned_word nk i s)) (sym (read (i - 1) (omega arith))))

-- a word of the key, as the code writes it in its place
pub key_written :
    (ws key : List ℕ) (i x : ℕ) → i < length ws → bytes_of (take i ws) ≡ take (4 * i) key → to_be_bytes w32 x ≡ word key i → bytes_of (take (i + 1) (set ws i x)) ≡ take (4 * (i + 1)) key
key_written ws key i x inside so_far read =
    let more : 4 * (i + 1) ≡ 4 * i + 4 = omega arith in
    ap bytes_of (take_more_set ws i x inside) ∙ bytes_of-append (take i ws) (x ∷ []) ∙ ap (λ (s : List ℕ). bytes_of (take i ws) ++ s) (bytes_of-one x ∙ read)
    ∙ ap (λ (s : List ℕ). s ++ word key i) so_far ∙ sym (take-add (4 * i) 4 key) ∙ ap (λ (k : ℕ). take k key) (sym more)

pub length-next_word : (nk i : ℕ) (w : List ℕ) → length (next_word nk i w) ≡ 4
unfolding next_word
length-next_word nk i w = length-sum_of_bytes 4 _ _

pub length-expansion : (key : List ℕ) (n : ℕ) → length (expansion key n) ≡ length key + 4 * n
unfolding expansion
length-expansion key zero = omega arith
length-expansion key (suc n) =
    let before = length-expansion key n in
    let word = length-next_word (length key / 4) (length key / 4 + n) (expansion key n) in
    rw (length-append (expansion key n) (next_word (length key / 4) (length key / 4 + n) (expansion key n))) (omega arith)

-- one more word
pub expansion_more : (key : List ℕ) (n nk i j : ℕ) → nk ≡ length key / 4 → i ≡ nk + n → j ≡ n + 1 → expansion key n ++ next_word nk i (expansion key n) ≡ expansion key j
unfolding expansion
expansion_more key n nk i j word_count at more = rw (more, add-one n, at, word_count) refl

-- a key has whole words
pub key_in_words : (key : List ℕ) → IsAesKey key → length key ≡ 4 * (length key / 4)
key_in_words key sized = ⊎_elim (λ h. rw h refl) (λ h. rw h refl) sized

pub schedule_written : (key : List ℕ) (n : ℕ) → n ≡ 4 * (length key / 4 + 6 + 1) - length key / 4 → expansion key n ≡ key_schedule key
unfolding key_schedule
schedule_written key n e = ap (expansion key) e

pub length-key_schedule : (key : List ℕ) → IsAesKey key → length (key_schedule key) ≡ 16 * (length key / 4 + 6) + 16
unfolding key_schedule
length-key_schedule key sized = length-expansion key (4 * (length key / 4 + 6 + 1) - length key / 4) ∙ omega (arith, key_in_words key sized)

x_power-lt : (n : ℕ) → x_power n < 256
unfolding x_power
x_power-lt zero = lit< tt
x_power-lt (suc n) = product_small 2 (x_power n) (lit< tt) (x_power-lt n)

round_constant-bytes : (n : ℕ) → IsBytes (x_power n ∷ 0 ∷ 0 ∷ 0 ∷ [])
round_constant-bytes n zero = x_power-lt n
round_constant-bytes n (suc zero) = lit< tt
round_constant-bytes n (suc (suc zero)) = lit< tt
round_constant-bytes n (suc (suc (suc zero))) = lit< tt
round_constant-bytes n (suc (suc (suc (suc i)))) = lit< tt

sub_word-bytes : (w : List ℕ) → IsBytes w → IsBytes (map sub_byte w)
sub_word-bytes w bytes =
    IsBytes-from_below (map sub_byte w) (length w) (length-map w sub_byte) (λ i h. rw (get_or-map sub_byte w i 0 0 h) (sub_byte-lt (get_or w i 0) (bytes i)))

either-bytes : (b : Bool) (s t : List ℕ) → IsBytes s → IsBytes t → IsBytes (if b then s else t)
either-bytes true s t first second = first
either-bytes false s t first second = second

turned_word-bytes : (nk i : ℕ) (w : List ℕ) → IsBytes w → IsBytes (turned_word nk i w)
unfolding turned_word
turned_word-bytes nk i w bytes =
    let rotated : IsBytes (drop 1 w ++ take 1 w) = IsBytes-append (drop 1 w) (take 1 w) (IsBytes-drop 1 w bytes) (IsBytes-take 1 w bytes) in
    either-bytes (i % nk == 0) _ _
    (sum_of_bytes-block 4 (map sub_byte (drop 1 w ++ take 1 w)) (x_power (i / nk - 1) ∷ 0 ∷ 0 ∷ 0 ∷ []) (sub_word-bytes _ rotated) (round_constant-bytes (i / nk - 1))).bytes
    (either-bytes (nat_lt 6 nk && (i % nk == 4)) _ _ (sub_word-bytes w bytes) bytes)

next_word-bytes : (nk i : ℕ) (w : List ℕ) → IsBytes w → IsBytes (next_word nk i w)
unfolding next_word
next_word-bytes nk i w bytes =
    (sum_of_bytes-block 4 (word w (i - nk)) (turned_word nk i (word w (i - 1))) (IsBytes-take 4 (drop (4 * (i - nk)) w) (IsBytes-drop (4 * (i - nk)) w bytes))
    (turned_word-bytes nk i (word w (i - 1)) (IsBytes-take 4 (drop (4 * (i - 1)) w) (IsBytes-drop (4 * (i - 1)) w bytes)))).bytes

expansion-bytes : (key : List ℕ) (n : ℕ) → IsBytes key → IsBytes (expansion key n)
unfolding expansion
expansion-bytes key zero bytes = bytes
expansion-bytes key (suc n) bytes =
    IsBytes-append (expansion key n) (next_word (length key / 4) (length key / 4 + n) (expansion key n)) (expansion-bytes key n bytes)
    (next_word-bytes (length key / 4) (length key / 4 + n) (expansion key n) (expansion-bytes key n bytes))

pub IsBytes-key_schedule : (key : List ℕ) → IsBytes key → IsBytes (key_schedule key)
unfolding key_schedule
IsBytes-key_schedule key bytes = expansion-bytes key (4 * (length key / 4 + 6 + 1) - length key / 4) bytes
