-- Strings cut into blocks of `size` bytes.
use Rattle.std.proofs.Common.{◌≡◌, ◌<◌, ◌≤◌, ◌+◌, ◌-◌, ◌*◌, ◌/◌, ◌%◌, ℕ, zero, suc, List, [], ◌++◌, length, get_or, take, drop, replicate, refl, sym, ap, ◌∙◌, inl, inr, arith, add-one, lit<}
use Rattle.std.specs.Int.Bits.{xor_zero_r}
use Rattle.std.proofs.lemmas.Bool.{cases_lt}
use Rattle.std.proofs.lemmas.Nat.{xor_comm}
use Rattle.std.proofs.Math.Nat.{mul-le-mul_left}
use Rattle.std.proofs.Math.Seq.{take-add}
use Rattle.std.proofs.lemmas.List.{length-drop, length-append, length-replicate, length-take-le, append_assoc, get_or-take, get_or-drop, get_or-replicate, ext_get_or, take-append-le, drop-append-le, take_at, drop_at, take_all, drop-drop, take-append-drop, drop_all, append-nil}
use borrow.Rule.Slice.PartMut.{put_mid}
use Rattle.block_ciphers.specs.Bytes.{IsBytes, IsBlock, sum_of_bytes}
use Rattle.block_ciphers.specs.Chains.{block_at, before, exchanged, swapped}
use Rattle.block_ciphers.proofs.States.{length-sum_of_bytes, get_or-sum_of_bytes, IsBytes-take, IsBytes-drop, IsBytes-from_below, IsBlock-cut}

pub sum_of_bytes-comm : (n : ℕ) (a b : List ℕ) → sum_of_bytes n a b ≡ sum_of_bytes n b a
sum_of_bytes-comm n a b =
    ext_get_or 0 (sum_of_bytes n a b) (sum_of_bytes n b a) (length-sum_of_bytes n a b ∙ sym (length-sum_of_bytes n b a))
    (λ i h.
    let within : i < n = omega (arith, length-sum_of_bytes n a b) in
    get_or-sum_of_bytes n a b i within ∙ xor_comm (get_or a i 0) (get_or b i 0) ∙ sym (get_or-sum_of_bytes n b a i within))

-- a sum with zeros
pub sum_of_bytes-zeros : (n : ℕ) (a : List ℕ) → length a ≡ n → sum_of_bytes n a (replicate n 0) ≡ a
sum_of_bytes-zeros n a sized =
    ext_get_or 0 (sum_of_bytes n a (replicate n 0)) a (length-sum_of_bytes n a (replicate n 0) ∙ sym sized)
    (λ i h.
    let inside : i < n = omega (arith, length-sum_of_bytes n a (replicate n 0)) in
    get_or-sum_of_bytes n a (replicate n 0) i inside ∙ rw (get_or-replicate {A = ℕ} n i 0 0 inside) (xor_zero_r (get_or a i 0)))

pub IsBytes-replicate : (n : ℕ) → IsBytes (replicate n 0)
IsBytes-replicate n =
    IsBytes-from_below (replicate n 0) n (length-replicate {A = ℕ} n 0) (λ i h. rw (get_or-replicate {A = ℕ} n i 0 0 h) (lit< tt))

-- blocks before a number of blocks end within their bytes
pub block_fits : (size i n : ℕ) → i < n → size * i + size ≤ size * n
block_fits size i n h = let next : i + 1 ≤ n = omega arith in omega (arith, mul-le-mul_left size next)

pub block_below : (size i n : ℕ) → size * i < size * n → i < n
block_below size i n h =
    elim (cases_lt i n) [ inl below ↦ below | inr past ↦ absurd (omega (arith, mul-le-mul_left size past)) ]

pub block_at-front : (size : ℕ) (s t : List ℕ) (i n : ℕ) → length s ≡ size * n → i < n → block_at size (s ++ t) i ≡ block_at size s i
block_at-front size s t i n long below =
    let fits = block_fits size i n below in
    let start : size * i ≤ length s = omega arith in
    let whole : size ≤ length (drop (size * i) s) = omega (arith, length-drop (size * i) s) in
    rw (drop-append-le (size * i) s t start, take-append-le size (drop (size * i) s) t whole) refl

pub block_at-last : (size : ℕ) (s t : List ℕ) (n : ℕ) → length s ≡ size * n → length t ≡ size → block_at size (s ++ t) n ≡ t
block_at-last size s t n long sized = rw (drop_at s t (size * n) long) (take_all size t (omega arith))

pub before-front : (size : ℕ) (s t : List ℕ) (i n : ℕ) → length s ≡ size * n → i ≤ n → before size (s ++ t) i ≡ before size s i
unfolding before
before-front size s t zero n long within = refl
before-front size s t (suc i) n long within = block_at-front size s t i n long (omega arith)

pub before-last : (size : ℕ) (s t : List ℕ) (n m : ℕ) → length s ≡ size * n → length t ≡ size → m ≡ n + 1 → before size (s ++ t) m ≡ t
unfolding before
before-last size s t n m long sized next = rw (next, add-one n) (block_at-last size s t n long sized)

-- strings of whole blocks are equal where their blocks are
pub same_from_blocks : (size n : ℕ) → 0 < size → (s t : List ℕ) → length s ≡ size * n → length t ≡ size * n → ((i : ℕ) → i < n → block_at size s i ≡ block_at size t i) → s ≡ t
same_from_blocks size n some s t long_s long_t same =
    ext_get_or 0 s t (long_s ∙ sym long_t)
    (λ k h.
    let i = k / size in
    let j = k % size in
    let place : size * (k / size) + k % size ≡ k = omega arith in
    let inside : k % size < size = omega arith in
    let below : k / size < n = block_below size (k / size) n (omega arith) in
    ap (λ (x : ℕ). get_or s x 0) (sym place) ∙ sym (get_or-drop (size * (k / size)) s (k % size) 0) ∙ sym (get_or-take size (drop (size * (k / size)) s) (k % size) 0 inside)
    ∙ ap (λ (b : List ℕ). get_or b (k % size) 0) (same (k / size) below)
    ∙ get_or-take size (drop (size * (k / size)) t) (k % size) 0 inside ∙ get_or-drop (size * (k / size)) t (k % size) 0 ∙ ap (λ (x : ℕ). get_or t x 0) place)

-- block i of bytes is a block
pub block_at-block : (size n i : ℕ) (s : List ℕ) → IsBytes s → length s ≡ size * n → i < n → IsBlock size (block_at size s i)
block_at-block size n i s bytes long below = IsBlock-cut size (size * i) s bytes (omega (arith, block_fits size i n below))

-- the block before block n, as the code cuts it out, and zeros before the first
pub before_cut : (s : List ℕ) (n : ℕ) → 0 < n → take (16 * n - (16 * n - 16)) (drop (16 * n - 16) s) ≡ before 16 s n
unfolding before
before_cut s zero some = absurd (omega arith)
before_cut s (suc k) some =
    let start : 16 * suc k - 16 ≡ 16 * k = omega arith in
    let size : 16 * suc k - 16 * k ≡ 16 = omega arith in
    rw (start, size) refl

pub before_none : (s : List ℕ) (n : ℕ) → n ≡ 0 → replicate 16 0 ≡ before 16 s n
unfolding before
before_none s n none = rw none refl

pub before-bytes : (size : ℕ) (s : List ℕ) (i : ℕ) → IsBytes s → IsBytes (before size s i)
unfolding before
before-bytes size s zero bytes = IsBytes-replicate size
before-bytes size s (suc i) bytes = IsBytes-take size (drop (size * i) s) (IsBytes-drop (size * i) s bytes)

-- a string in three parts: m blocks, a block, and the rest
module _ (size m : ℕ) (f z y : List ℕ) (front : length f ≡ size * m) (mid : length z ≡ size) where
  pub front_of : take (size * m) (f ++ z ++ y) ≡ f
  front_of = rw (append_assoc f z y) (take_at f (z ++ y) (size * m) front)

  pub mid_of : block_at size (f ++ z ++ y) m ≡ z
  mid_of = rw (append_assoc f z y, drop_at f (z ++ y) (size * m) front) (take_at z y size mid)

  pub length-two_parts : length (f ++ z) ≡ size * (m + 1)
  length-two_parts = omega (arith, length-append f z)

  pub rest_of : drop (size * (m + 1)) (f ++ z ++ y) ≡ y
  rest_of = drop_at (f ++ z) y (size * (m + 1)) length-two_parts

-- where the rest is a block too
module _ (size m : ℕ) (f z y : List ℕ) (front : length f ≡ size * m) (mid : length z ≡ size) (last : length y ≡ size) where
  pub last_of : block_at size (f ++ z ++ y) (m + 1) ≡ y
  last_of = rw (rest_of size m f z y front mid) (take_all size y (omega arith))

  pub exchanged_of : (n : ℕ) → exchanged size m n (f ++ z ++ y) ≡ f ++ y ++ take (n - size * (m + 1)) z
  exchanged_of n = rw (front_of size m f z y front mid, mid_of size m f z y front mid, last_of) refl

  pub swapped_of : swapped size (f ++ z ++ y) ≡ f ++ y ++ z
  swapped_of =
      let whole : length (f ++ z ++ y) ≡ size * m + 2 * size = omega (arith, length-append (f ++ z) y, length-append f z) in
      let start : length (f ++ z ++ y) - 2 * size ≡ size * m = omega arith in
      let end : length (f ++ z ++ y) - size ≡ size * (m + 1) = omega arith in
      rw (start, end, front_of size m f z y front mid, mid_of size m f z y front mid, rest_of size m f z y front mid) refl

-- those parts of a string
pub in_parts : (size m : ℕ) (s : List ℕ) → length s ≡ size * (m + 2) → s ≡ take (size * m) s ++ block_at size s m ++ block_at size s (m + 1)
in_parts size m s long =
    let rest : drop size (drop (size * m) s) ≡ drop (size * (m + 1)) s = drop-drop size (size * m) s ∙ (let same : size * m + size ≡ size * (m + 1) = omega arith in rw same refl) in
    let last : take size (drop (size * (m + 1)) s) ≡ drop (size * (m + 1)) s = take_all size (drop (size * (m + 1)) s) (omega (arith, length-drop (size * (m + 1)) s)) in
    sym (rw (last, sym rest, append_assoc (take (size * m) s) (take size (drop (size * m) s)) (drop size (drop (size * m) s)), take-append-drop size (drop (size * m) s), take-append-drop (size * m) s) refl)

-- those parts of a string whose rest is shorter or longer
pub in_front_parts : (size m : ℕ) (s : List ℕ) → size * (m + 1) ≤ length s → s ≡ take (size * m) s ++ block_at size s m ++ drop (size * (m + 1)) s
in_front_parts size m s long =
    let rest : drop size (drop (size * m) s) ≡ drop (size * (m + 1)) s = drop-drop size (size * m) s ∙ (let same : size * m + size ≡ size * (m + 1) = omega arith in rw same refl) in
    sym (rw (sym rest, append_assoc (take (size * m) s) (take size (drop (size * m) s)) (drop size (drop (size * m) s)), take-append-drop size (drop (size * m) s), take-append-drop (size * m) s) refl)

-- a string whose blocks are bytes is bytes
pub IsBytes-from_blocks : (size n : ℕ) → 0 < size → (s : List ℕ) → length s ≡ size * n → ((i : ℕ) → i < n → IsBytes (block_at size s i)) → IsBytes s
IsBytes-from_blocks size n some s long blocks =
    IsBytes-from_below s (size * n) long
    (λ k h.
    let place : size * (k / size) + k % size ≡ k = omega arith in
    let inside : k % size < size = omega arith in
    let below : k / size < n = block_below size (k / size) n (omega arith) in
    let read : get_or (block_at size s (k / size)) (k % size) 0 ≡ get_or s k 0 =
    get_or-take size (drop (size * (k / size)) s) (k % size) 0 inside ∙ get_or-drop (size * (k / size)) s (k % size) 0 ∙ ap (λ (x : ℕ). get_or s x 0) place in
    rw (sym read) (blocks (k / size) below (k % size)))

pub length-front : (size m : ℕ) (s : List ℕ) → length s ≡ size * (m + 2) → length (take (size * m) s) ≡ size * m
length-front size m s long = length-take-le (size * m) s (omega arith)

pub length-mid : (size m : ℕ) (s : List ℕ) → length s ≡ size * (m + 2) → length (block_at size s m) ≡ size
length-mid size m s long = length-take-le size (drop (size * m) s) (omega (arith, length-drop (size * m) s))

pub length-last : (size m : ℕ) (s : List ℕ) → length s ≡ size * (m + 2) → length (block_at size s (m + 1)) ≡ size
length-last size m s long = length-take-le size (drop (size * (m + 1)) s) (omega (arith, length-drop (size * (m + 1)) s))

-- the last 16 bytes, exchanged with those before them in the rest
pub ends_exchanged :
    (xs f l fs ls : List ℕ) → 32 ≤ length xs → f ≡ take (length xs - 16) xs → l ≡ drop (length xs - 16) xs → fs ≡ l → ls ≡ take (length f - (length f - 16)) (drop (length f - 16) f)
    → put_mid (length f - 16) (length f - (length f - 16)) f fs ++ ls ≡ swapped 16 xs
ends_exchanged xs f l fs ls long front last turned_front turned_last =
    let a = length xs - 32 in
    let ends : length xs - 16 ≡ a + 16 = omega arith in
    let sized : length f ≡ a + 16 = ap length front ∙ length-take-le (length xs - 16) xs (omega arith) ∙ ends in
    let start : length f - 16 ≡ a = omega arith in
    let count : length f - (length f - 16) ≡ 16 = omega arith in
    let f_is : f ≡ take a xs ++ take 16 (drop a xs) = front ∙ ap (λ (k : ℕ). take k xs) ends ∙ take-add a 16 xs in
    let head : length (take a xs) ≡ a = length-take-le a xs (omega arith) in
    let mid : length (take 16 (drop a xs)) ≡ 16 = length-take-le 16 (drop a xs) (omega (arith, length-drop a xs)) in
    let begins : take a f ≡ take a xs = ap (take a) f_is ∙ take_at (take a xs) (take 16 (drop a xs)) a head in
    let rest : drop a f ≡ take 16 (drop a xs) = ap (drop a) f_is ∙ drop_at (take a xs) (take 16 (drop a xs)) a head in
    let whole : take 16 (take 16 (drop a xs)) ≡ take 16 (drop a xs) = take_all 16 (take 16 (drop a xs)) (omega arith) in
    let none : drop 16 (take 16 (drop a xs)) ≡ [] = drop_all 16 (take 16 (drop a xs)) (omega arith) in
    rw (turned_last, turned_front, last, count, start, begins, rest, whole, none, append-nil (drop (length xs - 16) xs)) refl
