-- A number stands where it is read, and is read where it stands.
use Rattle.std.proofs.Common.{◌≡◌, ℕ, ◌+◌, ◌-◌, ◌^◌, ◌<◌, ◌≤◌, List, [], ◌++◌, length, get_or, take, drop, refl, ap, sym, ◌∙◌, append-nil, inl, inr, arith}
use Rattle.std.proofs.lemmas.List.{places, get_or_past, take_all, length-drop}
use Rattle.std.proofs.lemmas.Bool.{cases_lt}
use Rattle.std.proofs.lemmas.Nat.{be_bytes_2, be_bytes_8, le_bytes_4, le_bytes_8}
use Rattle.std.specs.Int.{w16, w32, w64, from_be_bytes, from_le_bytes}
use Rattle.byteorder.specs.Endian.{big_bytes, big_number, little_bytes, little_number}
use Rattle.byteorder.specs.Numbers.{big_from-take, big_number-reads_back, little_from-take, little_number-reads_back, length-bytes_high_first, length-bytes_low_first}
use Rattle.byte_streams.specs.Parts.{part, Stands}
use Rattle.byte_streams.proofs.PartLaws.{cut-append}
use Rattle.byte_streams.specs.Numbers.{be16, be16_at, be64, be64_at, le32, le32_at, le64, le64_at}

-- each element is a byte
abbrev pub AreBytes : List ℕ → Type 0
AreBytes whole = (i : ℕ) → get_or whole i 0 < 256

pub length-be16 : (n : ℕ) → length (be16 n) ≡ 2
unfolding be16
length-be16 n = refl

pub length-be64 : (n : ℕ) → length (be64 n) ≡ 8
unfolding be64
length-be64 n = refl

pub length-le32 : (n : ℕ) → length (le32 n) ≡ 4
unfolding le32
length-le32 n = refl

pub length-le64 : (n : ℕ) → length (le64 n) ≡ 8
unfolding le64
length-le64 n = refl

-- a cut of bytes is bytes
pub bytes-cut : (whole : List ℕ) (place size : ℕ) → AreBytes whole → AreBytes (take size (drop place whole))
bytes-cut whole place size bytes i =
    elim (cases_lt i (length (take size (drop place whole)))) [
      | inl within ↦
          let same : get_or (take size (drop place whole)) i 0 ≡ get_or whole (place + i) 0 = grind (arith, places) in
          let below = bytes (place + i) in omega arith
      | inr past ↦
          let none : get_or (take size (drop place whole)) i 0 ≡ 0 = get_or_past (take size (drop place whole)) i 0 past in omega arith
    ]

length-cut : (whole : List ℕ) (place size : ℕ) → place + size ≤ length whole → length (take size (drop place whole)) ≡ size
length-cut whole place size inside = grind (arith, places)

-- the slice from a place on is all that is behind
pub all-behind : (place : ℕ) (whole : List ℕ) → take (length whole - place) (drop place whole) ≡ drop place whole
all-behind place whole = take_all (length whole - place) (drop place whole) (omega (arith, length-drop place whole))

-- a number's bytes that stand are read as the number
big-again : (k place n : ℕ) (whole : List ℕ) → n < 256 ^ k → Stands (part place (big_bytes k n)) whole → big_number k (drop place whole) ≡ n
big-again k place n whole fits stands =
    let size = length-bytes_high_first k n in
    let front : take k (drop place whole) ≡ big_bytes k n ++ [] = ap (λ (m : ℕ). take m (drop place whole)) (sym size) ∙ stands ∙ sym (append-nil (big_bytes k n)) in
    sym (big_from-take 0 k k (drop place whole) (omega arith)) ∙ ap (big_number k) front ∙ big_number-reads_back k n [] fits

little-again : (k place n : ℕ) (whole : List ℕ) → n < 256 ^ k → Stands (part place (little_bytes k n)) whole → little_number k (drop place whole) ≡ n
little-again k place n whole fits stands =
    let size = length-bytes_low_first 0 k n in
    let front : take k (drop place whole) ≡ little_bytes k n ++ [] = ap (λ (m : ℕ). take m (drop place whole)) (sym size) ∙ stands ∙ sym (append-nil (little_bytes k n)) in
    sym (little_from-take 0 k k (drop place whole) (omega arith)) ∙ ap (little_number k) front ∙ little_number-reads_back k n [] fits

pub be16-again : (place n : ℕ) (whole : List ℕ) → n < 2 ^ 16 → Stands (part place (be16 n)) whole → be16_at place whole ≡ n
unfolding be16 be16_at
be16-again place n whole fits stands = big-again 2 place n whole fits stands

pub be64-again : (place n : ℕ) (whole : List ℕ) → n < 2 ^ 64 → Stands (part place (be64 n)) whole → be64_at place whole ≡ n
unfolding be64 be64_at
be64-again place n whole fits stands = big-again 8 place n whole fits stands

pub le32-again : (place n : ℕ) (whole : List ℕ) → n < 2 ^ 32 → Stands (part place (le32 n)) whole → le32_at place whole ≡ n
unfolding le32 le32_at
le32-again place n whole fits stands = little-again 4 place n whole fits stands

pub le64-again : (place n : ℕ) (whole : List ℕ) → n < 2 ^ 64 → Stands (part place (le64 n)) whole → le64_at place whole ≡ n
unfolding le64 le64_at
le64-again place n whole fits stands = little-again 8 place n whole fits stands

-- a number at the front is read whatever follows
big-append : (k place : ℕ) (front rest : List ℕ) → place + k ≤ length front → big_number k (drop place (front ++ rest)) ≡ big_number k (drop place front)
big-append k place front rest inside =
    sym (big_from-take 0 k k (drop place (front ++ rest)) (omega arith)) ∙ ap (big_number k) (cut-append place k front rest inside)
    ∙ big_from-take 0 k k (drop place front) (omega arith)

little-append : (k place : ℕ) (front rest : List ℕ) → place + k ≤ length front → little_number k (drop place (front ++ rest)) ≡ little_number k (drop place front)
little-append k place front rest inside =
    sym (little_from-take 0 k k (drop place (front ++ rest)) (omega arith)) ∙ ap (little_number k) (cut-append place k front rest inside)
    ∙ little_from-take 0 k k (drop place front) (omega arith)

pub be16_at-append : (place : ℕ) (front rest : List ℕ) → place + 2 ≤ length front → be16_at place (front ++ rest) ≡ be16_at place front
unfolding be16_at
be16_at-append place front rest inside = big-append 2 place front rest inside

pub be64_at-append : (place : ℕ) (front rest : List ℕ) → place + 8 ≤ length front → be64_at place (front ++ rest) ≡ be64_at place front
unfolding be64_at
be64_at-append place front rest inside = big-append 8 place front rest inside

pub le32_at-append : (place : ℕ) (front rest : List ℕ) → place + 4 ≤ length front → le32_at place (front ++ rest) ≡ le32_at place front
unfolding le32_at
le32_at-append place front rest inside = little-append 4 place front rest inside

pub le64_at-append : (place : ℕ) (front rest : List ℕ) → place + 8 ≤ length front → le64_at place (front ++ rest) ≡ le64_at place front
unfolding le64_at
le64_at-append place front rest inside = little-append 8 place front rest inside

-- the numbers of std are byteorder's
be16-std : (bytes : List ℕ) → big_number 2 bytes ≡ from_be_bytes w16 (take 2 bytes)
be16-std bytes =
    let same : (b : List ℕ) → big_number 2 b ≡ from_be_bytes w16 b = λ b. omega arith in
    sym (big_from-take 0 2 2 bytes (omega arith)) ∙ same (take 2 bytes)

be64-std : (bytes : List ℕ) → big_number 8 bytes ≡ from_be_bytes w64 (take 8 bytes)
be64-std bytes =
    let same : (b : List ℕ) → big_number 8 b ≡ from_be_bytes w64 b = λ b. omega arith in
    sym (big_from-take 0 8 8 bytes (omega arith)) ∙ same (take 8 bytes)

le32-std : (bytes : List ℕ) → little_number 4 bytes ≡ from_le_bytes w32 (take 4 bytes)
le32-std bytes =
    let same : (b : List ℕ) → little_number 4 b ≡ from_le_bytes w32 b = λ b. omega arith in
    sym (little_from-take 0 4 4 bytes (omega arith)) ∙ same (take 4 bytes)

le64-std : (bytes : List ℕ) → little_number 8 bytes ≡ from_le_bytes w64 (take 8 bytes)
le64-std bytes =
    let same : (b : List ℕ) → little_number 8 b ≡ from_le_bytes w64 b = λ b. omega arith in
    sym (little_from-take 0 8 8 bytes (omega arith)) ∙ same (take 8 bytes)

-- a number that is read stands
pub be16-stands : (place n : ℕ) (whole : List ℕ) → AreBytes whole → place + 2 ≤ length whole → n ≡ big_number 2 (drop place whole) → Stands (part place (be16 n)) whole
unfolding be16
be16-stands place n whole bytes inside is =
    sym (be_bytes_2 (take 2 (drop place whole)) n (length-cut whole place 2 inside) (bytes-cut whole place 2 bytes) (is ∙ be16-std (drop place whole)))

pub be64-stands : (place n : ℕ) (whole : List ℕ) → AreBytes whole → place + 8 ≤ length whole → n ≡ big_number 8 (drop place whole) → Stands (part place (be64 n)) whole
unfolding be64
be64-stands place n whole bytes inside is =
    sym (be_bytes_8 (take 8 (drop place whole)) n (length-cut whole place 8 inside) (bytes-cut whole place 8 bytes) (is ∙ be64-std (drop place whole)))

pub le32-stands : (place n : ℕ) (whole : List ℕ) → AreBytes whole → place + 4 ≤ length whole → n ≡ little_number 4 (drop place whole) → Stands (part place (le32 n)) whole
unfolding le32
le32-stands place n whole bytes inside is =
    sym (le_bytes_4 (take 4 (drop place whole)) n (length-cut whole place 4 inside) (bytes-cut whole place 4 bytes) (is ∙ le32-std (drop place whole)))

pub le64-stands : (place n : ℕ) (whole : List ℕ) → AreBytes whole → place + 8 ≤ length whole → n ≡ little_number 8 (drop place whole) → Stands (part place (le64 n)) whole
unfolding le64
le64-stands place n whole bytes inside is =
    sym (le_bytes_8 (take 8 (drop place whole)) n (length-cut whole place 8 inside) (bytes-cut whole place 8 bytes) (is ∙ le64-std (drop place whole)))

pub le32-read : (place : ℕ) (whole : List ℕ) → AreBytes whole → place + 4 ≤ length whole → Stands (part place (le32 (le32_at place whole))) whole
unfolding le32_at
le32-read place whole bytes inside = le32-stands place _ whole bytes inside refl

pub le64-read : (place : ℕ) (whole : List ℕ) → AreBytes whole → place + 8 ≤ length whole → Stands (part place (le64 (le64_at place whole))) whole
unfolding le64_at
le64-read place whole bytes inside = le64-stands place _ whole bytes inside refl
