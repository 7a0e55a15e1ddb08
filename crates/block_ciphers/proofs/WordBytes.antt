-- The bytes of words, one word and many.
use Rattle.std.proofs.Common.{◌≡◌, ◌<◌, ◌≤◌, ◌+◌, ◌*◌, ◌/◌, ◌%◌, ◌^◌, ℕ, zero, suc, List, [], ◌∷◌, ◌++◌, length, get_or, take, drop, bit_xor, refl, sym, ap, ◌∙◌, lit<, arith}
use Rattle.std.specs.Int.{w32, to_be_bytes, from_be_bytes}
use Rattle.std.proofs.lemmas.Nat.{xor_shr, xor_mod, be_bytes_4, mod_below}
use Rattle.std.proofs.lemmas.List.{length-drop, length-take-le, take_at, drop_at, take-append-drop, drop-drop, drop_more, get_or-take, take_all}
use Rattle.block_ciphers.specs.Bytes.{IsBytes, sum_of_bytes}
use Rattle.block_ciphers.specs.Aes.{word, round_key}
use Rattle.block_ciphers.specs.Words.{bytes_of, schedule_of}
use Rattle.block_ciphers.proofs.States.{IsBytes-append, IsBytes-none, get_or-sum_of_bytes}
use Rattle.block_ciphers.proofs.Blocks.{sum_of_bytes-comm}

-- a byte of a sum is the sum of the bytes
byte_of_sum : (x y k : ℕ) → bit_xor x y / 2 ^ k % 2 ^ 8 ≡ bit_xor (x / 2 ^ k % 2 ^ 8) (y / 2 ^ k % 2 ^ 8)
byte_of_sum x y k = ap (λ (n : ℕ). n % 2 ^ 8) (xor_shr x y k) ∙ xor_mod (x / 2 ^ k) (y / 2 ^ k) 8

pub bytes_of_sum : (x y : ℕ) → to_be_bytes w32 (bit_xor x y) ≡ sum_of_bytes 4 (to_be_bytes w32 x) (to_be_bytes w32 y)
unfolding sum_of_bytes
bytes_of_sum x y = rw (byte_of_sum x y 24, byte_of_sum x y 16, byte_of_sum x y 8, xor_mod x y 8) refl

pub byte_in_sum : (x y r : ℕ) → r < 4 → get_or (to_be_bytes w32 (bit_xor x y)) r 0 ≡ bit_xor (get_or (to_be_bytes w32 x) r 0) (get_or (to_be_bytes w32 y) r 0)
byte_in_sum x y r h = ap (λ (s : List ℕ). get_or s r 0) (bytes_of_sum x y) ∙ get_or-sum_of_bytes 4 (to_be_bytes w32 x) (to_be_bytes w32 y) r h

-- the bytes of a word made of four, and of that word added to another
pub bytes_of_four : (s : List ℕ) → length s ≡ 4 → IsBytes s → to_be_bytes w32 (from_be_bytes w32 s) ≡ s
bytes_of_four s sized bytes = be_bytes_4 s (from_be_bytes w32 s) sized bytes refl

pub four_added : (k : ℕ) (s : List ℕ) → length s ≡ 4 → IsBytes s → to_be_bytes w32 (bit_xor k (from_be_bytes w32 s)) ≡ sum_of_bytes 4 s (to_be_bytes w32 k)
four_added k s sized bytes =
    bytes_of_sum k (from_be_bytes w32 s) ∙ ap (sum_of_bytes 4 (to_be_bytes w32 k)) (bytes_of_four s sized bytes) ∙ sum_of_bytes-comm 4 (to_be_bytes w32 k) s

pub four-bytes : (a b c d : ℕ) → a < 256 → b < 256 → c < 256 → d < 256 → IsBytes (a ∷ b ∷ c ∷ d ∷ [])
four-bytes a b c d ha hb hc hd zero = ha
four-bytes a b c d ha hb hc hd (suc zero) = hb
four-bytes a b c d ha hb hc hd (suc (suc zero)) = hc
four-bytes a b c d ha hb hc hd (suc (suc (suc zero))) = hd
four-bytes a b c d ha hb hc hd (suc (suc (suc (suc i)))) = lit< tt

pub word-bytes : (w : ℕ) → IsBytes (to_be_bytes w32 w)
word-bytes w =
    let small = λ (n : ℕ). mod_below n 256 (lit< tt) in
    four-bytes (w / 256 ^ 3 % 256) (w / 256 ^ 2 % 256) (w / 256 ^ 1 % 256) (w % 256) (small (w / 256 ^ 3)) (small (w / 256 ^ 2)) (small (w / 256 ^ 1)) (small w)

pub IsBytes-bytes_of : (ws : List ℕ) → IsBytes (bytes_of ws)
unfolding bytes_of
IsBytes-bytes_of [] = IsBytes-none
IsBytes-bytes_of (w ∷ ws) = IsBytes-append (to_be_bytes w32 w) (bytes_of ws) (word-bytes w) (IsBytes-bytes_of ws)

pub length-bytes_of : (ws : List ℕ) → length (bytes_of ws) ≡ 4 * length ws
unfolding bytes_of
length-bytes_of [] = refl
length-bytes_of (w ∷ ws) = omega (arith, length-bytes_of ws)

pub bytes_of-append : (xs ys : List ℕ) → bytes_of (xs ++ ys) ≡ bytes_of xs ++ bytes_of ys
unfolding bytes_of
bytes_of-append [] ys = refl
bytes_of-append (x ∷ xs) ys = rw (bytes_of-append xs ys) refl

-- one more word
pub bytes_of-one : (w : ℕ) → bytes_of (w ∷ []) ≡ to_be_bytes w32 w
unfolding bytes_of
bytes_of-one w = refl

-- the bytes of four words
pub bytes_of-four :
    (a b c d : ℕ) (w x y z : List ℕ) → to_be_bytes w32 a ≡ w → to_be_bytes w32 b ≡ x → to_be_bytes w32 c ≡ y → to_be_bytes w32 d ≡ z
    → bytes_of (a ∷ b ∷ c ∷ d ∷ []) ≡ w ++ (x ++ (y ++ z))
unfolding bytes_of
bytes_of-four a b c d w x y z ea eb ec ed =
    ap (λ (s : List ℕ). s ++ (to_be_bytes w32 b ++ (to_be_bytes w32 c ++ to_be_bytes w32 d))) ea ∙ ap (λ (s : List ℕ). w ++ (s ++ (to_be_bytes w32 c ++ to_be_bytes w32 d))) eb
    ∙ ap (λ (s : List ℕ). w ++ (x ++ (s ++ to_be_bytes w32 d))) ec ∙ ap (λ (s : List ℕ). w ++ (x ++ (y ++ s))) ed

-- the four words of 16 bytes
pub four_words : (b : List ℕ) → length b ≡ 16 → word b 0 ++ (word b 1 ++ (word b 2 ++ word b 3)) ≡ b
four_words b sized =
    let last : take 4 (drop 12 b) ≡ drop 12 b = take_all 4 (drop 12 b) (omega (arith, length-drop 12 b)) in
    let joined = λ (k : ℕ). ap (λ (s : List ℕ). take 4 (drop k b) ++ s) (sym (drop-drop 4 k b)) ∙ take-append-drop 4 (drop k b) in
    ap (λ (s : List ℕ). word b 0 ++ (word b 1 ++ (word b 2 ++ s))) last ∙ ap (λ (s : List ℕ). word b 0 ++ (word b 1 ++ s)) (joined 8)
    ∙ ap (λ (s : List ℕ). word b 0 ++ s) (joined 4) ∙ joined 0

-- the bytes of words cut in two
cut_in_two : (n : ℕ) (ws : List ℕ) → bytes_of ws ≡ bytes_of (take n ws) ++ bytes_of (drop n ws)
cut_in_two n ws = ap bytes_of (sym (take-append-drop n ws)) ∙ bytes_of-append (take n ws) (drop n ws)

pub length-front : (n : ℕ) (ws : List ℕ) → n ≤ length ws → length (bytes_of (take n ws)) ≡ 4 * n
length-front n ws within = length-bytes_of (take n ws) ∙ ap (λ (k : ℕ). 4 * k) (length-take-le n ws within)

pub take-bytes_of : (n : ℕ) (ws : List ℕ) → n ≤ length ws → take (4 * n) (bytes_of ws) ≡ bytes_of (take n ws)
take-bytes_of n ws within = ap (take (4 * n)) (cut_in_two n ws) ∙ take_at (bytes_of (take n ws)) (bytes_of (drop n ws)) (4 * n) (length-front n ws within)

pub drop-bytes_of : (n : ℕ) (ws : List ℕ) → n ≤ length ws → drop (4 * n) (bytes_of ws) ≡ bytes_of (drop n ws)
drop-bytes_of n ws within = ap (drop (4 * n)) (cut_in_two n ws) ∙ drop_at (bytes_of (take n ws)) (bytes_of (drop n ws)) (4 * n) (length-front n ws within)

-- four elements from place a on, written out
pub four_at : (w : List ℕ) (a b c d : ℕ) → b ≡ a + 1 → c ≡ b + 1 → d ≡ c + 1 → d < length w → take 4 (drop a w) ≡ get_or w a 0 ∷ get_or w b 0 ∷ get_or w c 0 ∷ get_or w d 0 ∷ []
four_at w a b c d eb ec ed fits =
    rw (drop_more w a 0 (omega arith), sym eb, drop_more w b 0 (omega arith), sym ec, drop_more w c 0 (omega arith), sym ed, drop_more w d 0 fits) refl

-- word i of the bytes of words
pub word-bytes_of : (ws : List ℕ) (i : ℕ) → i < length ws → word (bytes_of ws) i ≡ to_be_bytes w32 (get_or ws i 0)
word-bytes_of ws i h =
    let some : 1 ≤ length (drop i ws) = omega (arith, length-drop i ws) in
    ap (take 4) (drop-bytes_of i ws (omega arith)) ∙ take-bytes_of 1 (drop i ws) some
    ∙ ap (λ (s : List ℕ). bytes_of (take 1 s)) (drop_more ws i 0 h) ∙ bytes_of-one (get_or ws i 0)

-- round key n of the bytes of words
pub round_key-bytes_of : (ws : List ℕ) (n : ℕ) → 4 * n + 4 ≤ length ws → round_key (bytes_of ws) n ≡ bytes_of (get_or ws (4 * n) 0 ∷ get_or ws (4 * n + 1) 0 ∷ get_or ws (4 * n + 2) 0 ∷ get_or ws (4 * n + 3) 0 ∷ [])
round_key-bytes_of ws n fits =
    let start : 16 * n ≡ 4 * (4 * n) = omega arith in
    let some : 4 ≤ length (drop (4 * n) ws) = omega (arith, length-drop (4 * n) ws) in
    ap (λ (k : ℕ). take 16 (drop k (bytes_of ws))) start ∙ ap (take 16) (drop-bytes_of (4 * n) ws (omega arith)) ∙ take-bytes_of 4 (drop (4 * n) ws) some
    ∙ ap bytes_of (four_at ws (4 * n) (4 * n + 1) (4 * n + 2) (4 * n + 3) refl (omega arith) (omega arith) (omega arith))

-- a round key stands within the words that hold the schedule
pub round_key-schedule_of : (ws : List ℕ) (n m : ℕ) → 4 * n + 4 ≤ length ws → m ≤ n → round_key (bytes_of ws) m ≡ round_key (schedule_of n ws) m
round_key-schedule_of ws n m fits within =
    let k = 4 * n + 4 in
    let same = λ (i : ℕ) (h : i < 4 * n + 4). get_or-take (4 * n + 4) ws i 0 h in
    round_key-bytes_of ws m (omega arith)
    ∙ sym (round_key-bytes_of (take (4 * n + 4) ws) m (omega (arith, length-take-le (4 * n + 4) ws fits))
    ∙ rw (same (4 * m) (omega arith), same (4 * m + 1) (omega arith), same (4 * m + 2) (omega arith), same (4 * m + 3) (omega arith)) refl)

pub length-schedule_of : (n : ℕ) (ws : List ℕ) → 4 * n + 4 ≤ length ws → length (schedule_of n ws) ≡ 16 * n + 16
length-schedule_of n ws fits = length-front (4 * n + 4) ws fits ∙ omega arith
