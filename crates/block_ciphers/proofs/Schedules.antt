-- Round keys, and blocks as numbers, as the code makes them.
use Rattle.std.proofs.Common.{◌≡◌, ◌<◌, ◌≤◌, ◌+◌, ◌-◌, ◌*◌, ◌/◌, ◌%◌, ◌^◌, ℕ, zero, suc, List, [], ◌∷◌, ◌++◌, length, get_or, set, take, drop, map, reverse, slice_index, bit_and, bit_or, nat_lt, ◌&&◌, true, refl, sym, ap, ◌∙◌, arith, lit<}
use Rattle.std.specs.Int.{w64, to_be_bytes, from_be_bytes, bytes_high_first}
use Rattle.std.proofs.lemmas.Bool.Decides.{nat_tests}
use Rattle.std.proofs.lemmas.Nat.{and_mask, or_shifted, shl_whole, be_bytes_8}
use Rattle.std.proofs.lemmas.List.{take_at, drop_at, drop_more, take_more_set, map-append, append_assoc, append-nil, take_all, drop_all, reverse-append}
use Rattle.block_ciphers.specs.Bytes.{IsBytes, IsBlock, sum_of_bytes}
use Rattle.block_ciphers.specs.Chains.{block_at, before, IsChained, IsBlockCipher}
use Rattle.block_ciphers.proofs.AllBytes.{all_below, all_below_at}
use Rattle.block_ciphers.specs.Bits.{low_bits, bits_of_bytes, bytes_of_bits, permuted, strings}
use Rattle.block_ciphers.specs.Tables.{initial_permutation, final_permutation, permuted_choice_1, permuted_choice_2, left_shifts}
use Rattle.block_ciphers.specs.Des.{turned, keys_by_shifts, round_keys, part, cipher_function, network, cipher_by, des_cipher, des_inverse, triple_des_cipher, triple_des_inverse}
use Rattle.block_ciphers.specs.Schedule.{cipher_under}
use Rattle.block_ciphers.specs.declared.des3.schedule.KeySchedule.{KeySchedule}
use Rattle.block_ciphers.specs.declared.des3.permute.TheConstants.{INITIAL_PERMUTATION, FINAL_PERMUTATION, PERMUTED_CHOICE_1, PERMUTED_CHOICE_2}
use Rattle.block_ciphers.specs.declared.des3.schedule.TheConstants.{LEFT_SHIFTS}
use Rattle.block_ciphers.proofs.BitStrings.{length-low_bits, low_bits-mod, low_bits-append, low_bits-cat}
use Rattle.block_ciphers.proofs.Laws.{bytes_of_bits-bits_of_bytes, between, cipher_by-block}

-- the tables of the code
pub initial_table : INITIAL_PERMUTATION ≡ initial_permutation
unfolding initial_permutation
initial_table = refl

pub final_table : FINAL_PERMUTATION ≡ final_permutation
unfolding final_permutation
final_table = refl

pub choice_1_table : PERMUTED_CHOICE_1 ≡ permuted_choice_1
unfolding permuted_choice_1
choice_1_table = refl

pub choice_2_table : PERMUTED_CHOICE_2 ≡ permuted_choice_2
unfolding permuted_choice_2
choice_2_table = refl

pub shifts_table : LEFT_SHIFTS ≡ left_shifts
unfolding left_shifts
shifts_table = refl

-- the bytes of a number of 64 bits are its bits
bits_of_number : (n : ℕ) → bits_of_bytes (to_be_bytes w64 n) ≡ low_bits 64 n
unfolding bits_of_bytes
bits_of_number n =
    rw (low_bits-append 8 56 64 n refl, low_bits-append 8 48 56 n refl, low_bits-append 8 40 48 n refl, low_bits-append 8 32 40 n refl, low_bits-append 8 24 32 n refl, low_bits-append 8 16 24 n refl, low_bits-append 8 8 16 n refl, low_bits-mod 8 (n / 2 ^ 56), low_bits-mod 8 (n / 2 ^ 48), low_bits-mod 8 (n / 2 ^ 40), low_bits-mod 8 (n / 2 ^ 32), low_bits-mod 8 (n / 2 ^ 24), low_bits-mod 8 (n / 2 ^ 16), low_bits-mod 8 (n / 2 ^ 8), low_bits-mod 8 n, append-nil (low_bits 8 n))
    refl

pub number_bits : (bs : List ℕ) (n : ℕ) → length bs ≡ 8 → IsBytes bs → n ≡ from_be_bytes w64 bs → low_bits 64 n ≡ bits_of_bytes bs
number_bits bs n sized bytes is = sym (bits_of_number n) ∙ ap bits_of_bytes (be_bytes_8 bs n sized bytes is)

-- the two halves of a string of 56 bits
pub upper_half : (x : ℕ) (s : List ℕ) → low_bits 56 x ≡ s → low_bits 28 (bit_and (x / 2 ^ 28) 268435455) ≡ take 28 s
upper_half x s is =
    rw (and_mask (x / 2 ^ 28) 28, low_bits-mod 28 (x / 2 ^ 28), sym is, low_bits-append 28 28 56 x refl) (sym (take_at (low_bits 28 (x / 2 ^ 28)) (low_bits 28 x) 28 (length-low_bits 28 (x / 2 ^ 28))))

pub lower_half : (x : ℕ) (s : List ℕ) → low_bits 56 x ≡ s → low_bits 28 (bit_and x 268435455) ≡ drop 28 s
lower_half x s is =
    rw (and_mask x 28, low_bits-mod 28 x, sym is, low_bits-append 28 28 56 x refl) (sym (drop_at (low_bits 28 (x / 2 ^ 28)) (low_bits 28 x) 28 (length-low_bits 28 (x / 2 ^ 28))))

-- two halves put together
pub halves_together : (c d : ℕ) → c < 2 ^ 28 → d < 2 ^ 28 → low_bits 56 (bit_or (c * 2 ^ 28 % 2 ^ 64) d) ≡ low_bits 28 c ++ low_bits 28 d
halves_together c d hc hd = rw (shl_whole c 28 28 64 hc (lit< tt), or_shifted c 28 d hd) (low_bits-cat 28 28 c d hd)

-- the shifts are between 1 and 27
few_shifts : all_below (λ i. nat_lt 0 (slice_index LEFT_SHIFTS i) && nat_lt (slice_index LEFT_SHIFTS i) 28) 16 ≡ true
unfolding all_below
few_shifts = refl

both_tests : (x : ℕ) → (nat_lt 0 x && nat_lt x 28) ≡ true → (0 < x) × (x < 28)
both_tests x e = grind (arith, nat_tests)

pub shift_fits : (i : ℕ) → i < 16 → (0 < slice_index LEFT_SHIFTS i) × (slice_index LEFT_SHIFTS i < 28)
shift_fits i h = both_tests (slice_index LEFT_SHIFTS i) (all_below_at (λ i. nat_lt 0 (slice_index LEFT_SHIFTS i) && nat_lt (slice_index LEFT_SHIFTS i) 28) 16 i few_shifts h)

length-left_shifts : length left_shifts ≡ 16
unfolding left_shifts
length-left_shifts = refl

-- before the first round key
pub no_key :
    (chosen number : ℕ) (key : List ℕ) → low_bits 64 number ≡ bits_of_bytes key → low_bits 56 chosen ≡ permuted PERMUTED_CHOICE_1 (low_bits 64 number)
    → keys_by_shifts left_shifts (low_bits 28 (bit_and (chosen / 2 ^ 28) 268435455)) (low_bits 28 (bit_and chosen 268435455)) ≡ round_keys key
unfolding round_keys
no_key chosen number key bits is =
    let choice : low_bits 56 chosen ≡ permuted permuted_choice_1 (bits_of_bytes key) = is ∙ rw (choice_1_table, bits) refl in
    rw (upper_half chosen (permuted permuted_choice_1 (bits_of_bytes key)) choice, lower_half chosen (permuted permuted_choice_1 (bits_of_bytes key)) choice) refl

keys-cons : (n : ℕ) (shifts c d : List ℕ) → keys_by_shifts (n ∷ shifts) c d ≡ permuted permuted_choice_2 (turned n c ++ turned n d) ∷ keys_by_shifts shifts (turned n c) (turned n d)
unfolding keys_by_shifts
keys-cons n shifts c d = refl

-- one round key more
pub one_more_key :
    (keys : List ℕ) (i key c d next_c next_d : ℕ) (wanted : List (List ℕ)) → i < length keys → i < 16
    → low_bits 28 next_c ≡ turned (slice_index LEFT_SHIFTS i) (low_bits 28 c) → low_bits 28 next_d ≡ turned (slice_index LEFT_SHIFTS i) (low_bits 28 d) → next_c < 2 ^ 28 → next_d < 2 ^ 28
    → low_bits 48 key ≡ permuted PERMUTED_CHOICE_2 (low_bits 56 (bit_or (next_c * 2 ^ 28 % 2 ^ 64) next_d))
    → strings 48 (take i keys) ++ keys_by_shifts (drop i left_shifts) (low_bits 28 c) (low_bits 28 d) ≡ wanted
    → strings 48 (take (i + 1) (set keys i key)) ++ keys_by_shifts (drop (i + 1) left_shifts) (low_bits 28 next_c) (low_bits 28 next_d) ≡ wanted
one_more_key keys i key c d next_c next_d wanted inside few by_c by_d small_c small_d is so_far =
    let shift : get_or left_shifts i 0 ≡ slice_index LEFT_SHIFTS i = ap (λ (s : List ℕ). slice_index s i) (sym shifts_table) in
    let chosen : low_bits 48 key ≡ permuted permuted_choice_2 (turned (slice_index LEFT_SHIFTS i) (low_bits 28 c) ++ turned (slice_index LEFT_SHIFTS i) (low_bits 28 d)) =
    is ∙ rw (choice_2_table, halves_together next_c next_d small_c small_d, by_c, by_d) refl in
    let before : strings 48 (take i keys) ++ (low_bits 48 key ∷ keys_by_shifts (drop (i + 1) left_shifts) (low_bits 28 next_c) (low_bits 28 next_d)) ≡ wanted =
    rw (chosen, by_c, by_d) (rw (drop_more left_shifts i 0 (omega (arith, length-left_shifts)), shift, keys-cons (slice_index LEFT_SHIFTS i) (drop (i + 1) left_shifts) (low_bits 28 c) (low_bits 28 d)) at so_far) in
    rw (take_more_set keys i key inside, map-append (λ k. low_bits 48 k) (take i keys) (key ∷ []), append_assoc (strings 48 (take i keys)) (low_bits 48 key ∷ []) (keys_by_shifts (drop (i + 1) left_shifts) (low_bits 28 next_c) (low_bits 28 next_d))) before

-- all round keys
pub all_keys :
    (keys : List ℕ) (i c d : ℕ) (wanted : List (List ℕ)) → length keys ≡ 16 → 16 ≤ i
    → strings 48 (take i keys) ++ keys_by_shifts (drop i left_shifts) (low_bits 28 c) (low_bits 28 d) ≡ wanted → strings 48 keys ≡ wanted
unfolding keys_by_shifts
all_keys keys i c d wanted sized at_end so_far =
    let none : drop i left_shifts ≡ [] = drop_all i left_shifts (omega (arith, length-left_shifts)) in
    let all : take i keys ≡ keys = take_all i keys (omega arith) in
    sym (append-nil (strings 48 keys)) ∙ (rw (none, all) at so_far)

-- a block as the code passes it on, from its bytes to its bytes
IsBytes-cons : (b : ℕ) (s : List ℕ) → b < 256 → IsBytes s → IsBytes (b ∷ s)
IsBytes-cons b s first rest zero = first
IsBytes-cons b s first rest (suc i) = rest i

IsBytes-bytes_high_first : (k n : ℕ) → IsBytes (bytes_high_first k n)
IsBytes-bytes_high_first zero n = λ i. lit< tt
IsBytes-bytes_high_first (suc zero) n = IsBytes-cons (n % 256) [] (omega arith) (λ i. lit< tt)
IsBytes-bytes_high_first (suc (suc k)) n = IsBytes-cons (n / 256 ^ suc k % 256) (bytes_high_first (suc k) n) (omega arith) (IsBytes-bytes_high_first (suc k) n)

bytes_of_number : (n : ℕ) (s : List ℕ) → low_bits 64 n ≡ s → to_be_bytes w64 n ≡ bytes_of_bits s
bytes_of_number n s is =
    sym (bytes_of_bits-bits_of_bytes (to_be_bytes w64 n) (IsBytes-bytes_high_first 8 n)) ∙ ap bytes_of_bits (bits_of_number n ∙ is)

cut_in_halves : (x : ℕ) → low_bits 32 (x / 2 ^ 32) ++ low_bits 32 (bit_and x 4294967295) ≡ low_bits 64 x
cut_in_halves x = rw (and_mask x 32, low_bits-mod 32 x) (sym (low_bits-append 32 32 64 x refl))

halves_of_block : (left right : ℕ) → left < 2 ^ 32 → right < 2 ^ 32 → low_bits 64 (bit_or (left * 2 ^ 32 % 2 ^ 64) right) ≡ low_bits 32 left ++ low_bits 32 right
halves_of_block left right hl hr = rw (shl_whole left 32 32 64 hl (lit< tt), or_shifted left 32 right hr) (low_bits-cat 32 32 left right hr)

cipher_by-written : (keys : List (List ℕ)) (block : List ℕ) → cipher_by keys block ≡ bytes_of_bits (permuted final_permutation (network cipher_function keys (permuted initial_permutation (bits_of_bytes block))))
unfolding cipher_by
cipher_by-written keys block = refl

-- the block after the three passes
pub passed :
    (k : KeySchedule) (block : List ℕ) (number string first_left first_right second_left second_right left right end : ℕ)
    → low_bits 64 number ≡ bits_of_bytes block → low_bits 64 string ≡ permuted INITIAL_PERMUTATION (low_bits 64 number)
    → low_bits 32 first_left ++ low_bits 32 first_right ≡ network cipher_function (strings 48 k.first) (low_bits 32 (string / 2 ^ 32) ++ low_bits 32 (bit_and string 4294967295))
    → low_bits 32 second_left ++ low_bits 32 second_right ≡ network cipher_function (strings 48 k.second) (low_bits 32 first_left ++ low_bits 32 first_right)
    → low_bits 32 left ++ low_bits 32 right ≡ network cipher_function (strings 48 k.third) (low_bits 32 second_left ++ low_bits 32 second_right)
    → left < 2 ^ 32 → right < 2 ^ 32
    → low_bits 64 end ≡ permuted FINAL_PERMUTATION (low_bits 64 (bit_or (left * 2 ^ 32 % 2 ^ 64) right))
    → to_be_bytes w64 end ≡ cipher_under k block
unfolding cipher_under
passed k block number string first_left first_right second_left second_right left right end bits start one two three small_left small_right finish =
    let begun : low_bits 32 (string / 2 ^ 32) ++ low_bits 32 (bit_and string 4294967295) ≡ permuted initial_permutation (bits_of_bytes block) =
    cut_in_halves string ∙ (start ∙ rw (initial_table, bits) refl) in
    let once = cipher_by (strings 48 k.first) block in
    let twice = cipher_by (strings 48 k.second) (cipher_by (strings 48 k.first) block) in
    let ended : low_bits 64 end ≡ permuted final_permutation (network cipher_function (strings 48 k.third) (permuted initial_permutation (bits_of_bytes (cipher_by (strings 48 k.second) (cipher_by (strings 48 k.first) block))))) =
    finish ∙ rw (final_table, halves_of_block left right small_left small_right, three, two, one, begun, between (strings 48 k.second) (cipher_by (strings 48 k.first) block), between (strings 48 k.first) block) refl in
    bytes_of_number end (permuted final_permutation (network cipher_function (strings 48 k.third) (permuted initial_permutation (bits_of_bytes (cipher_by (strings 48 k.second) (cipher_by (strings 48 k.first) block)))))) ended
    ∙ sym (cipher_by-written (strings 48 k.third) (cipher_by (strings 48 k.second) (cipher_by (strings 48 k.first) block)))

map-reverse : (f : ℕ → List ℕ) (s : List ℕ) → map f (reverse s) ≡ reverse (map f s)
map-reverse f [] = refl
map-reverse f (x ∷ s) =
    rw (reverse-append (x ∷ []) s, map-append f (reverse s) (x ∷ []), map-reverse f s, reverse-append (f x ∷ []) (map f s)) refl

pub strings-reverse : (keys turned : List ℕ) (wanted : List (List ℕ)) → turned ≡ reverse keys → strings 48 keys ≡ wanted → strings 48 turned ≡ reverse wanted
strings-reverse keys turned wanted is same = rw (is, map-reverse (λ key. low_bits 48 key) keys, same) refl

-- the passes under the round keys of the three parts of a key
pub enciphers :
    (key : List ℕ) (k : KeySchedule) → strings 48 k.first ≡ round_keys (part key 0) → strings 48 k.second ≡ reverse (round_keys (part key 1)) → strings 48 k.third ≡ round_keys (part key 2)
    → (block : List ℕ) → cipher_under k block ≡ triple_des_cipher key block
unfolding cipher_under triple_des_cipher des_cipher des_inverse
enciphers key k first second third block = rw (first, second, third) refl

pub deciphers :
    (key : List ℕ) (k : KeySchedule) → strings 48 k.first ≡ reverse (round_keys (part key 2)) → strings 48 k.second ≡ round_keys (part key 1) → strings 48 k.third ≡ reverse (round_keys (part key 0))
    → (block : List ℕ) → cipher_under k block ≡ triple_des_inverse key block
unfolding cipher_under triple_des_inverse des_cipher des_inverse
deciphers key k first second third block = rw (first, second, third) refl

-- a block as the code cuts it out
pub cut : (n : ℕ) (s : List ℕ) → take (8 * n + 8 - 8 * n) (drop (8 * n) s) ≡ block_at 8 s n
cut n s = let size : 8 * n + 8 - 8 * n ≡ 8 = omega arith in rw size refl

pub cipher_under-block : (k : KeySchedule) (block : List ℕ) → IsBlock 8 (cipher_under k block)
unfolding cipher_under
cipher_under-block k block = cipher_by-block (strings 48 k.third) (cipher_by (strings 48 k.second) (cipher_by (strings 48 k.first) block))

-- a chain by another name of its cipher
pub chained_by : (E F : List ℕ → List ℕ) (p c : List ℕ) → ((s : List ℕ) → E s ≡ F s) → IsChained 8 E p c → IsChained 8 F p c
chained_by E F p c same chained =
    record { same_length = chained.same_length; each = λ i h. chained.each i h ∙ same (sum_of_bytes 8 (block_at 8 p i) (before 8 c i)) }

-- what undoes a cipher, by another name
pub undone_by : (E D F : List ℕ → List ℕ) → ((s : List ℕ) → F s ≡ D s) → IsBlockCipher 8 E D → IsBlockCipher 8 E F
undone_by E D F same pair =
    record {
      some = pair.some;
      cipher_block = pair.cipher_block;
      inverse_block = λ s h. rw (same s) (pair.inverse_block s h);
      deciphered = λ s h. same (E s) ∙ pair.deciphered s h;
      enciphered = λ s h. rw (same s) (pair.enciphered s h);
    }
