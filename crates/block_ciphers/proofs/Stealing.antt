-- Ciphertext stealing over a chain, both ways, and that it is one to one from one block on.
use Rattle.std.proofs.Common.{lit<, ◌≡◌, ◌<◌, ◌≤◌, ◌+◌, ◌-◌, ◌*◌, ◌/◌, ℕ, List, ◌++◌, length, get_or, take, drop, replicate, bit_xor, refl, sym, ap, ◌∙◌, inl, inr, arith, add-one}
use Rattle.std.specs.Int.Bits.{xor_zero_l, xor_self}
use Rattle.std.proofs.lemmas.Bool.{cases_lt}
use Rattle.std.proofs.Math.Nat.{mul-le-mul_left}
use Rattle.std.proofs.Math.Seq.{take-append-add}
use Rattle.std.proofs.lemmas.List.{drop-append-le, drop-replicate, length-append, length-replicate, length-take, length-take-le, length-drop, take_at, take_all, drop_all, append_assoc, append-nil, ext_get_or, get_or-drop, get_or-take, get_or-replicate, drop_at, get_or_past, get_or-append_right, take-append-drop}
use Rattle.block_ciphers.specs.Bytes.{IsBytes, IsBlock, sum_of_bytes}
use Rattle.block_ciphers.specs.Chains.{block_at, before, IsChained, IsBlockCipher, IsStolen, IsCompleted, block_count, zero_filled, exchanged, swapped}
use Rattle.block_ciphers.proofs.Sums.{added_twice}
use Rattle.block_ciphers.proofs.States.{IsBlock-cut, IsBytes-append, IsBytes-take, IsBytes-drop, get_or-sum_of_bytes, sum_of_bytes-block}
use Rattle.block_ciphers.proofs.Blocks.{sum_of_bytes-zeros, IsBytes-replicate, block_at-block, before-front, before-last, mid_of, last_of, exchanged_of, swapped_of, in_parts, in_front_parts, length-front, length-mid, length-last}
use Rattle.block_ciphers.proofs.Chaining.{chained_function, chain-bytes, chained_text, unchain_more}

-- n bytes are m whole blocks, one more, and up to one more
pub record LastTwo (size n m : ℕ) : Type 0 where
  pub count : block_count size n ≡ m + 2
  pub over : size * (m + 1) < n
  pub within : n ≤ size * (m + 2)

pub last_two : (size n m : ℕ) → 0 < size → size < n → m ≡ block_count size n - 2 → LastTwo size n m
last_two size n m some more is =
    let q = (n + (size - 1)) / size in
    let many : 2 ≤ q = elim (cases_lt 1 q) [ inl h ↦ omega arith | inr h ↦ absurd (omega (arith, mul-le-mul_left size h)) ] in
    let count : q ≡ m + 2 = omega arith in
    let blocks : size * q ≡ size * (m + 2) = ap (λ (x : ℕ). size * x) count in
    record { count = count; over = omega arith; within = omega arith }

pub filled : (size n : ℕ) → 0 < size → n ≤ size * block_count size n
filled size n some = omega arith

pub length-zero_filled : (size : ℕ) (p : List ℕ) → 0 < size → length (zero_filled size p) ≡ size * block_count size (length p)
length-zero_filled size p some =
    omega (arith, length-append p (replicate (size * block_count size (length p) - length p) 0), length-replicate {A = ℕ} (size * block_count size (length p) - length p) 0, filled size (length p) some)

pub zero_filled-bytes : (size : ℕ) (p : List ℕ) → IsBytes p → IsBytes (zero_filled size p)
zero_filled-bytes size p bytes = IsBytes-append p (replicate (size * block_count size (length p) - length p) 0) bytes (IsBytes-replicate (size * block_count size (length p) - length p))

zeros_at : (k i : ℕ) → get_or {A = ℕ} (replicate k 0) i 0 ≡ 0
zeros_at k i =
    elim (cases_lt i k) [ inl h ↦ get_or-replicate {A = ℕ} k i 0 0 h | inr h ↦ get_or_past {X = ℕ} (replicate k 0) i 0 (omega (arith, length-replicate {A = ℕ} k 0)) ]

-- after a text, its zero-padded form has zeros
zeros_behind : (size : ℕ) (p : List ℕ) (i j : ℕ) → length p ≤ size * i + j → get_or (block_at size (zero_filled size p) i) j 0 ≡ 0
zeros_behind size p i j past =
    let zeros = replicate (size * block_count size (length p) - length p) 0 in
    elim (cases_lt j size) [
      | inl h ↦
          get_or-take size (drop (size * i) (zero_filled size p)) j 0 h ∙ get_or-drop (size * i) (zero_filled size p) j 0
          ∙ get_or-append_right p zeros (length p) (size * i + j) 0 refl past ∙ zeros_at (size * block_count size (length p) - length p) (size * i + j - length p)
      | inr h ↦
          get_or_past (block_at size (zero_filled size p) i) j 0 (omega (arith, length-take size (drop (size * i) (p ++ zeros))))
    ]

-- the last block of a zero-padded text, as the code pads it
pub last_filled : (p rest : List ℕ) (i : ℕ) → rest ≡ drop (16 * i) p → 16 * i < length p → length rest < 16 → rest ++ drop (length rest) (replicate 16 0) ≡ block_at 16 (zero_filled 16 p) i
last_filled p rest i is inside few =
    let zeros : List ℕ = replicate (16 * block_count 16 (length p) - length p) 0 in
    let left : length rest ≡ length p - 16 * i = ap length is ∙ length-drop (16 * i) p in
    let missing : 16 - length rest ≡ 16 * block_count 16 (length p) - length p = omega arith in
    let start : 16 * i ≤ length p = omega arith in
    ap (λ (s : List ℕ). rest ++ s) (drop-replicate {X = ℕ} (length rest) 16 0 ∙ ap (λ (k : ℕ). replicate {A = ℕ} k 0) missing)
    ∙ sym (ap (take 16) (drop-append-le (16 * i) p zeros start ∙ ap (λ (s : List ℕ). s ++ zeros) (sym is))
    ∙ take_all 16 (rest ++ zeros) (omega (arith, length-append rest zeros, length-replicate {A = ℕ} (16 * block_count 16 (length p) - length p) 0)))

-- the text is the front of its zero-padded form
pub front_of_filled : (size : ℕ) (p : List ℕ) → take (length p) (zero_filled size p) ≡ p
front_of_filled size p = take_at p (replicate (size * block_count size (length p) - length p) 0) (length p) refl

pub stolen_short : (size : ℕ) (E : List ℕ → List ℕ) (p c : List ℕ) → length p ≤ size → IsChained size E (zero_filled size p) c → IsStolen size E p c
stolen_short size E p c few chained = record { short = λ _. chained; long = λ many. absurd (omega arith) }

-- the chain of the zero-padded text, its last two blocks exchanged and cut
pub stolen_long : (size : ℕ) (E : List ℕ → List ℕ) (p x : List ℕ) → 0 < size → size < length p → IsChained size E (zero_filled size p) x → IsStolen size E p (take (length p) (swapped size x))
stolen_long size E p x some more chained =
    let m = block_count size (length p) - 2 in
    let last = last_two size (length p) (block_count size (length p) - 2) some more refl in
    let whole : length x ≡ size * (m + 2) = chained.same_length ∙ length-zero_filled size p some ∙ ap (λ (k : ℕ). size * k) last.count in
    let f = take (size * m) x in
    let z = block_at size x m in
    let y = block_at size x (m + 1) in
    let front : length f ≡ size * m = length-front size m x whole in
    let mid : length z ≡ size = length-mid size m x whole in
    let end : length y ≡ size = length-last size m x whole in
    let parts : x ≡ f ++ z ++ y = in_parts size m x whole in
    let two : length (f ++ y) ≡ size * (m + 1) = omega (arith, length-append f y) in
    let rest : length p ≡ length (f ++ y) + (length p - size * (m + 1)) = omega (arith, last.over) in
    let cut : take (length p) (f ++ y ++ z) ≡ f ++ y ++ take (length p - size * (m + 1)) z =
    ap (λ (k : ℕ). take k (f ++ y ++ z)) rest ∙ take-append-add (f ++ y) z (length p - size * (m + 1)) in
    record {
      short = λ few. absurd (omega arith);
      long =
          λ _. (
            x,
            chained,
            ap (λ (s : List ℕ). take (length p) (swapped size s)) parts
                ∙ ap (λ (s : List ℕ). take (length p) s) (swapped_of size m f z y front mid end)
                ∙ cut
                ∙ sym (exchanged_of size m f z y front mid end (length p))
                ∙ ap (λ (s : List ℕ). exchanged size m (length p) s) (sym parts),
          );
    }

-- one block alone: its chain is its cipher
pub alone : (size : ℕ) (E : List ℕ → List ℕ) (a b : List ℕ) → 0 < size → length b ≡ size → IsChained size E a b → (length a ≡ size) × (b ≡ E a)
unfolding before
alone size E a b some sized chained =
    let long : length a ≡ size = sym chained.same_length ∙ sized in
    let none : size * 0 ≡ 0 = omega arith in
    let first : take size (drop (size * 0) b) ≡ E (sum_of_bytes size (take size (drop (size * 0) a)) (replicate size 0)) = chained.each 0 (omega arith) in
    let whole_a : take size a ≡ a = take_all size a (omega arith) in
    let whole_b : take size b ≡ b = take_all size b (omega arith) in
    (long, sym whole_b ∙ (rw (none, whole_a, sum_of_bytes-zeros size a long) at first))

-- where a sum's second summand is the sum itself, the first is 0
cancelled : (a p z : ℕ) → a ≡ bit_xor p z → z ≡ a → p ≡ 0
cancelled a p z sum same = sym (added_twice p z) ∙ rw (sym sum, same) (xor_self a)

module _ (size : ℕ) (E D : List ℕ → List ℕ) (pair : IsBlockCipher size E D) where
  one_to_one : (a b : List ℕ) → IsBlock size a → IsBlock size b → E a ≡ E b → a ≡ b
  one_to_one a b first second same = sym (pair.deciphered a first) ∙ ap D same ∙ pair.deciphered b second

  -- a is what the last block y of a chain comes from: the sum of the last text block and the chain's block before
  from_last : (p f z y a : List ℕ) (m : ℕ) → length f ≡ size * m → length z ≡ size → length y ≡ size → IsBytes p → IsBytes z → IsBlock size a → y ≡ E a → IsChained size E p (f ++ z ++ y) → a ≡ sum_of_bytes size (block_at size p (m + 1)) z
  unfolding before
  from_last p f z y a m front mid end p_bytes z_bytes a_block from chained =
      let whole : length p ≡ size * (m + 2) = sym chained.same_length ∙ omega (arith, length-append (f ++ z) y, length-append f z) in
      let text : IsBlock size (block_at size p (m + 1)) = block_at-block size (m + 2) (m + 1) p p_bytes whole (omega arith) in
      let last : block_at size (f ++ z ++ y) (m + 1) ≡ E (sum_of_bytes size (block_at size p (m + 1)) (before size (f ++ z ++ y) (m + 1))) = chained.each (m + 1) (omega (arith, pair.some)) in
      let between : before size (f ++ z ++ y) (m + 1) ≡ z = rw (add-one m) (mid_of size m f z y front mid) in
      one_to_one a (sum_of_bytes size (block_at size p (m + 1)) z) a_block (sum_of_bytes-block size (block_at size p (m + 1)) z text.bytes z_bytes)
      (sym from ∙ sym (last_of size m f z y front mid end) ∙ last ∙ ap (λ (b : List ℕ). E (sum_of_bytes size (block_at size p (m + 1)) b)) between)

  -- if the text is zero-padded, the deciphered last block shows what stealing cuts off the last block but one
  tail_shows : (p f z y a : List ℕ) (m d : ℕ) → length f ≡ size * m → length z ≡ size → length y ≡ size → IsBytes p → IsBytes z → IsBlock size a → y ≡ E a → IsChained size E p (f ++ z ++ y) → ((j : ℕ) → d ≤ j → get_or (block_at size p (m + 1)) j 0 ≡ 0) → drop d z ≡ drop d a
  tail_shows p f z y a m d front mid end p_bytes z_bytes a_block from chained zeros =
      let sum = from_last p f z y a m front mid end p_bytes z_bytes a_block from chained in
      ext_get_or 0 (drop d z) (drop d a) (omega (arith, length-drop d z, length-drop d a, a_block.sized))
      (λ j h.
      let inside : d + j < size = omega (arith, length-drop d z) in
      get_or-drop d z j 0
      ∙ sym (ap (λ (b : List ℕ). get_or b (d + j) 0) sum ∙ get_or-sum_of_bytes size (block_at size p (m + 1)) z (d + j) inside ∙ rw (zeros (d + j) (omega arith)) (xor_zero_l (get_or z (d + j) 0)))
      ∙ sym (get_or-drop d a j 0))

  -- and a text read from a block completed that way ends in zeros
  zeros_show : (p f z y a : List ℕ) (m d : ℕ) → length f ≡ size * m → length z ≡ size → length y ≡ size → IsBytes p → IsBytes z → IsBlock size a → y ≡ E a → IsChained size E p (f ++ z ++ y) → drop d z ≡ drop d a → (j : ℕ) → d ≤ j → j < size → get_or (block_at size p (m + 1)) j 0 ≡ 0
  zeros_show p f z y a m d front mid end p_bytes z_bytes a_block from chained tails j past inside =
      let sum = from_last p f z y a m front mid end p_bytes z_bytes a_block from chained in
      let place : d + (j - d) ≡ j = omega arith in
      let same : get_or z j 0 ≡ get_or a j 0 =
      ap (λ (k : ℕ). get_or z k 0) (sym place) ∙ sym (get_or-drop d z (j - d) 0) ∙ ap (λ (s : List ℕ). get_or s (j - d) 0) tails ∙ get_or-drop d a (j - d) 0 ∙ ap (λ (k : ℕ). get_or a k 0) place in
      cancelled (get_or a j 0) (get_or (block_at size p (m + 1)) j 0) (get_or z j 0)
      (ap (λ (b : List ℕ). get_or b j 0) sum ∙ get_or-sum_of_bytes size (block_at size p (m + 1)) z j inside) same

  -- a stolen text's chain, completed from what was stolen and from a, whose cipher stands last but one
  pub completed_chain :
      (q c a : List ℕ) (n m : ℕ) → IsBytes q → length q ≡ n → LastTwo size n m → IsBlock size a → block_at size c m ≡ E a → IsStolen size E q c
      → IsChained size E (zero_filled size q) (swapped size (c ++ drop (n - size * (m + 1)) a))
  completed_chain q c a n m bytes sized last a_block from stolen =
      let count : block_count size (length q) - 2 ≡ m = rw sized (omega (arith, last.count)) in
      let long = stolen.long (rw sized (omega (arith, last.over))) in
      let x = long.0 in
      let d = n - size * (m + 1) in
      let whole : length (zero_filled size q) ≡ size * (m + 2) = length-zero_filled size q pair.some ∙ rw (sized, last.count) refl in
      let x_long : length x ≡ size * (m + 2) = long.1.same_length ∙ whole in
      let f = take (size * m) x in
      let z = block_at size x m in
      let y = block_at size x (m + 1) in
      let front : length f ≡ size * m = length-front size m x x_long in
      let mid : length z ≡ size = length-mid size m x x_long in
      let end : length y ≡ size = length-last size m x x_long in
      let parts : x ≡ f ++ z ++ y = in_parts size m x x_long in
      let x_bytes : IsBytes x = chain-bytes size E D pair (zero_filled size q) x (m + 2) (zero_filled-bytes size q bytes) whole long.1 in
      let c_parts : c ≡ f ++ y ++ take d z = long.2 ∙ ap (λ (k : ℕ). exchanged size k (length q) x) count ∙ ap (λ (k : ℕ). exchanged size m k x) sized in
      let y_from : y ≡ E a = sym (mid_of size m f y (take d z) front end) ∙ sym (ap (λ (s : List ℕ). block_at size s m) c_parts) ∙ from in
      let chained : IsChained size E (zero_filled size q) (f ++ z ++ y) = rw parts at long.1 in
      let zeros : (j : ℕ) → d ≤ j → get_or (block_at size (zero_filled size q) (m + 1)) j 0 ≡ 0 = λ j past. zeros_behind size q (m + 1) j (omega (arith, last.over)) in
      let tails : drop d z ≡ drop d a = tail_shows (zero_filled size q) f z y a m d front mid end (zero_filled-bytes size q bytes) (IsBytes-take size (drop (size * m) x) (IsBytes-drop (size * m) x x_bytes)) a_block y_from chained zeros in
      let completed : c ++ drop d a ≡ f ++ y ++ z =
      ap (λ (s : List ℕ). s ++ drop d a) c_parts ∙ ap (λ (s : List ℕ). f ++ y ++ take d z ++ s) (sym tails) ∙ append_assoc (f ++ y) (take d z) (drop d z)
      ∙ ap (λ (s : List ℕ). f ++ y ++ s) (take-append-drop d z) in
      rw (completed, swapped_of size m f y z front end mid) chained

  -- if a chain was completed in this way, its text is zero-padded, and the cut text with stealing gives the cut chain
  pub stolen_back :
      (p c a : List ℕ) (n m : ℕ) → IsBytes p → IsBytes c → length c ≡ n → size < n → LastTwo size n m → IsBlock size a → block_at size c m ≡ E a → IsChained size E p (swapped size (c ++ drop (n - size * (m + 1)) a))
      → (zero_filled size (take n p) ≡ p) × IsStolen size E (take n p) c
  stolen_back p c a n m p_bytes c_bytes sized more last a_block from chained =
      let d = n - size * (m + 1) in
      let f = take (size * m) c in
      let y = block_at size c m in
      let t = drop (size * (m + 1)) c in
      let z = t ++ drop d a in
      let parts : c ≡ f ++ y ++ t = in_front_parts size m c (omega (arith, last.over)) in
      let front : length f ≡ size * m = length-take-le (size * m) c (omega (arith, last.over)) in
      let end : length y ≡ size = length-take-le size (drop (size * m) c) (omega (arith, length-drop (size * m) c, last.over)) in
      let cut : length t ≡ d = omega (arith, length-drop (size * (m + 1)) c, last.over) in
      let mid : length z ≡ size = omega (arith, length-append t (drop d a), length-drop d a, a_block.sized, last.over, last.within) in
      let completed : swapped size (c ++ drop d a) ≡ f ++ z ++ y =
      ap (λ (s : List ℕ). swapped size (s ++ drop d a)) parts ∙ ap (λ (s : List ℕ). swapped size s) (append_assoc (f ++ y) t (drop d a)) ∙ swapped_of size m f y z front end mid in
      let whole_chain : IsChained size E p (f ++ z ++ y) = rw completed at chained in
      let whole : length p ≡ size * (m + 2) = sym whole_chain.same_length ∙ omega (arith, length-append (f ++ z) y, length-append f z) in
      let long : length (take n p) ≡ n = length-take-le n p (omega (arith, last.within)) in
      let z_bytes : IsBytes z = IsBytes-append t (drop d a) (IsBytes-drop (size * (m + 1)) c c_bytes) (IsBytes-drop d a a_block.bytes) in
      let zeros = zeros_show p f z y a m d front mid end p_bytes z_bytes a_block from whole_chain (drop_at t (drop d a) d cut) in
      let rest : drop n p ≡ replicate (size * (m + 2) - n) 0 =
      ext_get_or 0 (drop n p) (replicate (size * (m + 2) - n) 0) (omega (arith, length-drop n p, length-replicate {A = ℕ} (size * (m + 2) - n) 0))
      (λ j h.
      let inside : n + j < size * (m + 2) = omega (arith, length-drop n p) in
      let place : size * (m + 1) + (d + j) ≡ n + j = omega (arith, last.over) in
      get_or-drop n p j 0 ∙ ap (λ (k : ℕ). get_or p k 0) (sym place)
      ∙ sym (get_or-drop (size * (m + 1)) p (d + j) 0) ∙ sym (get_or-take size (drop (size * (m + 1)) p) (d + j) 0 (omega arith))
      ∙ zeros (d + j) (omega arith) (omega arith) ∙ sym (zeros_at (size * (m + 2) - n) j)) in
      let count : block_count size (length (take n p)) ≡ m + 2 = ap (block_count size) long ∙ last.count in
      let refilled : zero_filled size (take n p) ≡ p =
      ap (λ (k : ℕ). take n p ++ replicate (size * k - length (take n p)) 0) count ∙ ap (λ (k : ℕ). take n p ++ replicate (size * (m + 2) - k) 0) long
      ∙ ap (λ (s : List ℕ). take n p ++ s) (sym rest) ∙ take-append-drop n p in
      let fewer : block_count size (length (take n p)) - 2 ≡ m = omega arith in (
        refilled,
        record {
          short = λ few. absurd (omega arith);
          long =
              λ _. (
                swapped size (c ++ drop d a),
                rw refilled chained,
                parts ∙ ap (λ (s : List ℕ). f ++ y ++ s) (sym (take_at t (drop d a) d cut)) ∙ sym (exchanged_of size m f z y front mid end n)
                    ∙ ap (λ (s : List ℕ). exchanged size m n s) (sym completed)
                    ∙ ap (λ (k : ℕ). exchanged size m k (swapped size (c ++ drop d a))) (sym long)
                    ∙ ap (λ (k : ℕ). exchanged size k (length (take n p)) (swapped size (c ++ drop d a))) (sym fewer),
              );
        },
      )

  -- where the chain so completed is that of p, the text stolen to c is the front of p
  pub stolen_only :
      (p q c a : List ℕ) (n m : ℕ) → IsBytes p → IsBytes q → length q ≡ n → LastTwo size n m → IsBlock size a → block_at size c m ≡ E a → IsChained size E p (swapped size (c ++ drop (n - size * (m + 1)) a)) → IsStolen size E q c
      → q ≡ take n p
  stolen_only p q c a n m p_bytes q_bytes sized last a_block from chained stolen =
      let x = swapped size (c ++ drop (n - size * (m + 1)) a) in
      let other = completed_chain q c a n m q_bytes sized last a_block from stolen in
      let whole : length (zero_filled size q) ≡ size * (m + 2) = length-zero_filled size q pair.some ∙ ap (λ (k : ℕ). size * block_count size k) sized ∙ ap (λ (k : ℕ). size * k) last.count in
      let long : length x ≡ size * (m + 2) = other.same_length ∙ whole in
      let x_bytes : IsBytes x = chain-bytes size E D pair (zero_filled size q) x (m + 2) (zero_filled-bytes size q q_bytes) whole other in
      let same : zero_filled size q ≡ p = chained_text size E D pair (zero_filled size q) p x (m + 2) (zero_filled-bytes size q q_bytes) p_bytes x_bytes long other chained in
      sym (front_of_filled size q) ∙ ap (λ (k : ℕ). take k (zero_filled size q)) sized ∙ ap (λ (s : List ℕ). take n s) same

-- a text of whole blocks is its own zero-padded form
pub filled_already : (size : ℕ) (p : List ℕ) → length p ≡ size * block_count size (length p) → zero_filled size p ≡ p
filled_already size p whole =
    let none : size * block_count size (length p) - length p ≡ 0 = omega arith in
    rw none (append-nil p)

one_block : (size n : ℕ) → 0 < size → n ≡ size → n ≡ size * block_count size n
one_block size n some whole =
    let q = (n + (size - 1)) / size in
    let some_block : 1 ≤ q = elim (cases_lt 0 q) [ inl h ↦ h | inr h ↦ absurd (omega (arith, mul-le-mul_left size h)) ] in
    let no_more : q ≤ 1 = elim (cases_lt 1 q) [ inl h ↦ absurd (omega (arith, mul-le-mul_left size h)) | inr h ↦ h ] in
    let one : q ≡ 1 = omega arith in
    let blocks : size * q ≡ size * 1 = ap (λ (k : ℕ). size * k) one in
    omega arith

-- stealing keeps the length from one block on
pub length-stolen : (size : ℕ) (E : List ℕ → List ℕ) (p c : List ℕ) → 0 < size → size ≤ length p → IsStolen size E p c → length c ≡ length p
length-stolen size E p c some many stolen =
    elim (cases_lt size (length p)) [
      | inl more ↦
          (let m = block_count size (length p) - 2 in
          let last = last_two size (length p) (block_count size (length p) - 2) some more refl in
          let long = stolen.long more in
          let x = long.0 in
          let whole : length x ≡ size * (m + 2) = long.1.same_length ∙ length-zero_filled size p some ∙ ap (λ (k : ℕ). size * k) last.count in
          ap length long.2
          ∙ omega (arith, length-append (take (size * m) x ++ block_at size x (m + 1)) (take (length p - size * (m + 1)) (block_at size x m)), length-append (take (size * m) x) (block_at size x (m + 1)), length-front size m x whole, length-last size m x whole, length-mid size m x whole, length-take (length p - size * (m + 1)) (block_at size x m), last.over, last.within))
      | inr few ↦
          (let one : length p ≡ size = omega arith in
          (stolen.short few).same_length ∙ ap length (filled_already size p (one_block size (length p) some one)))
    ]

-- stealing is a function of the text
pub stolen_function : (size : ℕ) (E : List ℕ → List ℕ) (p c d : List ℕ) → 0 < size → IsStolen size E p c → IsStolen size E p d → c ≡ d
stolen_function size E p c d some first second =
    elim (cases_lt size (length p)) [
      | inl more ↦
          (let x = first.long more in
          let y = second.long more in
          let same : x.0 ≡ y.0 = chained_function size (block_count size (length p)) some E (zero_filled size p) x.0 y.0 (length-zero_filled size p some) x.1 y.1 in
          x.2 ∙ ap (λ (s : List ℕ). exchanged size (block_count size (length p) - 2) (length p) s) same ∙ sym y.2)
      | inr few ↦ chained_function size (block_count size (length p)) some E (zero_filled size p) c d (length-zero_filled size p some) (first.short few) (second.short few)
    ]

-- from one block on the text is determined by what it is stolen to
pub stolen_text : (size : ℕ) (E D : List ℕ → List ℕ) → IsBlockCipher size E D → (p q c : List ℕ) → IsBytes p → IsBytes q → IsBytes c → size ≤ length p → size ≤ length q → IsStolen size E p c → IsStolen size E q c → p ≡ q
stolen_text size E D pair p q c p_bytes q_bytes c_bytes p_many q_many first second =
    let p_long : length c ≡ length p = length-stolen size E p c pair.some p_many first in
    let q_long : length c ≡ length q = length-stolen size E q c pair.some q_many second in
    let same_length : length q ≡ length p = sym q_long ∙ p_long in
    elim (cases_lt size (length p)) [
      | inl more ↦
          (let n = length p in
          let m = block_count size n - 2 in
          let last = last_two size n m pair.some more refl in
          let y = block_at size c m in
          let y_block : IsBlock size y = IsBlock-cut size (size * m) c c_bytes (omega (arith, last.over)) in
          let a = D y in
          let a_block : IsBlock size a = pair.inverse_block y y_block in
          let from : y ≡ E a = sym (pair.enciphered y y_block) in
          let chained = completed_chain size E D pair p c a n m p_bytes refl last a_block from first in
          sym (stolen_only size E D pair (zero_filled size p) q c a n m (zero_filled-bytes size p p_bytes) q_bytes same_length last a_block from chained second
          ∙ front_of_filled size p))
      | inr few ↦
          (let p_one : length p ≡ size = omega arith in
          let q_one : length q ≡ size = omega arith in
          let p_whole : length p ≡ size * block_count size (length p) = one_block size (length p) pair.some p_one in
          let q_whole : length q ≡ size * block_count size (length q) = one_block size (length q) pair.some q_one in
          let p_chain : IsChained size E p c = rw (filled_already size p p_whole) at (first.short few) in
          let q_chain : IsChained size E q c = rw (filled_already size q q_whole) at (second.short (omega arith)) in
          chained_text size E D pair p q c (block_count size (length p)) p_bytes q_bytes c_bytes (p_long ∙ p_whole) p_chain q_chain)
    ]

-- what the code's steps come to, over lists
module _ (size : ℕ) (E D : List ℕ → List ℕ) (pair : IsBlockCipher size E D) (c v x p : List ℕ) (p_bytes : IsBytes p) (c_bytes : IsBytes c) (more : size < length c) (completed : IsCompleted size (block_count size (length c) - 2) E c v) (turned : x ≡ swapped size v) (chained : IsChained size E p x) where
  opened_chain : IsChained size E p (swapped size (c ++ drop (length c - size * (block_count size (length c) - 2 + 1)) completed.under))
  opened_chain = rw (turned, completed.appended) at chained

  opened_stolen : IsStolen size E (take (length c) p) c
  opened_stolen =
      (stolen_back size E D pair p c completed.under (length c) (block_count size (length c) - 2) p_bytes c_bytes refl more (last_two size (length c) (block_count size (length c) - 2) pair.some more refl) completed.under_block completed.stands opened_chain).1

  opened_only : (q : List ℕ) → IsBytes q → length q ≡ length c → IsStolen size E q c → q ≡ take (length c) p
  opened_only q q_bytes sized stolen =
      stolen_only size E D pair p q c completed.under (length c) (block_count size (length c) - 2) p_bytes q_bytes sized (last_two size (length c) (block_count size (length c) - 2) pair.some more refl) completed.under_block completed.stands opened_chain stolen

  -- what was opened is stolen to the cipher text, and no other text of its length is
  pub opened : IsStolen size E (take (length c) p) c × ((q : List ℕ) → IsBytes q → length q ≡ length c → IsStolen size E q c → q ≡ take (length c) p)
  opened = (opened_stolen, opened_only)

pub text_bytes : (p a b : List ℕ) → IsBytes p → IsBytes (a ++ b) → IsBytes (p ++ a ++ b)
text_bytes p a b first rest = rw (append_assoc p a b) (IsBytes-append p (a ++ b) first rest)

-- what the code reads for the last two blocks of the text, over lists
module _ (E D : List ℕ → List ℕ) (pair : IsBlockCipher 16 E D) (c : List ℕ) (m : ℕ) (bytes : IsBytes c) (more : 16 < length c) (is : m ≡ block_count 16 (length c) - 2) where
  pub ends_of :
      (rest under stolen last a b p : List ℕ) → last ≡ before 16 c m → under ≡ D (before 16 c (m + 1)) → rest ≡ drop (16 * m + 16) c → stolen ≡ rest ++ drop (length rest) under
      → a ≡ sum_of_bytes 16 (D stolen) last → b ≡ sum_of_bytes 16 under stolen → IsChained 16 E p (take (16 * m) c)
      → (v : List ℕ) × IsCompleted 16 m E c v × IsChained 16 E (p ++ a ++ b) (swapped 16 v)
  unfolding before
  ends_of rest under stolen last a b p last_is under_is rest_is stolen_is a_is b_is chained =
      let two = last_two 16 (length c) m (lit< tt) more is in
      let y = block_at 16 c m in
      let y_block : IsBlock 16 (block_at 16 c m) = IsBlock-cut 16 (16 * m) c bytes (omega (arith, two.over)) in
      let under_of : under ≡ D (block_at 16 c m) = under_is ∙ rw (add-one m) refl in
      let under_block : IsBlock 16 under = rw under_of (pair.inverse_block (block_at 16 c m) y_block) in
      let f = take (16 * m) c in
      let d = length c - 16 * (m + 1) in
      let t = drop (16 * (m + 1)) c in
      let z = t ++ drop d under in
      let start : 16 * m + 16 ≡ 16 * (m + 1) = omega arith in
      let rest_of : rest ≡ drop (16 * (m + 1)) c = rest_is ∙ ap (λ (k : ℕ). drop k c) start in
      let cut : length rest ≡ length c - 16 * (m + 1) = ap length rest_of ∙ length-drop (16 * (m + 1)) c in
      let stolen_of : stolen ≡ drop (16 * (m + 1)) c ++ drop (length c - 16 * (m + 1)) under = stolen_is ∙ ap (λ (k : ℕ). rest ++ drop k under) cut ∙ ap (λ (s : List ℕ). s ++ drop (length c - 16 * (m + 1)) under) rest_of in
      let front : length (take (16 * m) c) ≡ 16 * m = length-take-le (16 * m) c (omega (arith, two.over)) in
      let mid : length (drop (16 * (m + 1)) c ++ drop (length c - 16 * (m + 1)) under) ≡ 16 =
      omega (arith, length-append t (drop d under), length-drop (16 * (m + 1)) c, length-drop d under, under_block.sized, two.over, two.within) in
      let z_block : IsBlock 16 (drop (16 * (m + 1)) c ++ drop (length c - 16 * (m + 1)) under) =
      record { sized = mid; bytes = IsBytes-append t (drop d under) (IsBytes-drop (16 * (m + 1)) c bytes) (IsBytes-drop d under under_block.bytes) } in
      let parts : c ++ drop d under ≡ f ++ y ++ z =
      ap (λ (s : List ℕ). s ++ drop d under) (in_front_parts 16 m c (omega (arith, two.over))) ∙ append_assoc (f ++ y) t (drop d under) in
      let turned : swapped 16 (c ++ drop d under) ≡ f ++ z ++ y = ap (swapped 16) parts ∙ swapped_of 16 m f y z front y_block.sized mid in
      let before_front : last ≡ before 16 f m =
      last_is ∙ ap (λ (s : List ℕ). before 16 s m) (sym (take-append-drop (16 * m) c)) ∙ before-front 16 f (drop (16 * m) c) m m front (omega arith) in
      let first : IsChained 16 E (p ++ a) (f ++ z) =
      unchain_more 16 E D pair p f z a last m front chained z_block before_front (a_is ∙ ap (λ (s : List ℕ). sum_of_bytes 16 (D s) last) stolen_of) in
      let second : IsChained 16 E (p ++ a ++ b) (f ++ z ++ y) =
      unchain_more 16 E D pair (p ++ a) (f ++ z) y b z (m + 1) (omega (arith, length-append f z)) first y_block (sym (before-last 16 f z m (m + 1) front mid refl))
      (b_is ∙ ap (λ (s : List ℕ). sum_of_bytes 16 s stolen) under_of ∙ ap (sum_of_bytes 16 (D (block_at 16 c m))) stolen_of) in (
        c ++ drop d under,
        record { under = under; under_block = under_block; stands = sym (ap E under_of ∙ pair.enciphered (block_at 16 c m) y_block); appended = refl },
        rw turned second,
      )

-- a slice written back into the vector that it was borrowed from
pub written_back : (n : ℕ) (new old : List ℕ) → length new ≡ length old → n ≡ length old → take n (new ++ drop (length new) old) ≡ new
written_back n new old same whole = rw (drop_all (length new) old (omega arith), append-nil new) (take_all n new (omega arith))
