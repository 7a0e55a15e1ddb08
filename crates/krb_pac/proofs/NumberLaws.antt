-- A number is read exactly where its octets are laid.
use Rattle.std.proofs.Common.{◌≡◌, ℕ, ◌+◌, ◌-◌, ◌^◌, ◌<◌, ◌≤◌, List, [], ◌++◌, length, take, drop, Result, Ok, nat_lt, refl, ap, sym, subst, ◌∙◌, append-nil, arith}
use Rattle.std.proofs.lemmas.List.{places}
use Rattle.std.proofs.lemmas.Nat.{le_bytes_2}
use Rattle.std.specs.Int.{w16, from_le_bytes}
use Rattle.byteorder.specs.Endian.{little_bytes, little_number}
use Rattle.byteorder.specs.Numbers.{little_from-take, little_number-reads_back, length-bytes_low_first}
use Rattle.byte_streams.specs.Parts.{part, Stands}
use Rattle.byte_streams.specs.Numbers.{le32, le32_at}
use Rattle.byte_streams.proofs.NumberLaws.{AreBytes, bytes-cut, le32-again}
use Rattle.krb_pac.specs.declared.error.PacFault.{PacFault}
use Rattle.krb_pac.specs.Places.{gap, aligned, start_at, IsLaid}
use Rattle.krb_pac.specs.Numbers.{le16, le16_at, u16_at, u32_at}
use Rattle.krb_pac.proofs.Steps.{step-ok, if-ok, enough, fits}

-- a value that is read begins at the first multiple of its size, and ends within the octets
start-found : (size place at : ℕ) (whole : List ℕ) → 0 < size → start_at size place whole ≡ Ok at
    → (at ≡ aligned size place) × (aligned size place + size ≤ length whole)
unfolding start_at
start-found size place at whole some is =
    let (test, made) = if-ok (nat_lt (length whole - place) (gap size place + size)) _ _ at is in
    let room : gap size place + size ≤ length whole - place = enough _ _ test in
    let same : at ≡ aligned size place = cc made in
    (same, omega arith)

start-within : (size place : ℕ) (whole : List ℕ) → aligned size place + size ≤ length whole → start_at size place whole ≡ Ok (aligned size place)
unfolding start_at
start-within size place whole within =
    let room : gap size place + size ≤ length whole - place = omega arith in
    rw (fits (gap size place + size) (length whole - place) room) refl

-- octets that stand where a value is read are laid
pub laid : (size place at : ℕ) (octets whole : List ℕ) → 0 < size → start_at size place whole ≡ Ok at → Stands (part at octets) whole
    → IsLaid size octets place (at + size) whole
laid size place at octets whole some is stands =
    let (same, room) = start-found size place at whole some is in record {
      stands = subst (λ (p : ℕ). Stands (part p octets) whole) same stands;
      ends = ap (λ (p : ℕ). p + size) same;
      inside = omega (arith, same, room);
    }

-- the number of two octets
le16-std : (bytes : List ℕ) → little_number 2 bytes ≡ from_le_bytes w16 (take 2 bytes)
le16-std bytes =
    let same : (b : List ℕ) → little_number 2 b ≡ from_le_bytes w16 b = λ b. omega arith in
    sym (little_from-take 0 2 2 bytes (omega arith)) ∙ same (take 2 bytes)

length-cut : (whole : List ℕ) (place size : ℕ) → place + size ≤ length whole → length (take size (drop place whole)) ≡ size
length-cut whole place size inside = grind (arith, places)

pub le16-stands : (place n : ℕ) (whole : List ℕ) → AreBytes whole → place + 2 ≤ length whole → n ≡ little_number 2 (drop place whole) → Stands (part place (le16 n)) whole
unfolding le16
le16-stands place n whole bytes inside is =
    sym (le_bytes_2 (take 2 (drop place whole)) n (length-cut whole place 2 inside) (bytes-cut whole place 2 bytes) (is ∙ le16-std (drop place whole)))

little-again : (k place n : ℕ) (whole : List ℕ) → n < 256 ^ k → Stands (part place (little_bytes k n)) whole → little_number k (drop place whole) ≡ n
little-again k place n whole small stands =
    let size = length-bytes_low_first 0 k n in
    let front : take k (drop place whole) ≡ little_bytes k n ++ [] = ap (λ (m : ℕ). take m (drop place whole)) (sym size) ∙ stands ∙ sym (append-nil (little_bytes k n)) in
    sym (little_from-take 0 k k (drop place whole) (omega arith)) ∙ ap (little_number k) front ∙ little_number-reads_back k n [] small

le16-again : (place n : ℕ) (whole : List ℕ) → n < 2 ^ 16 → Stands (part place (le16 n)) whole → le16_at place whole ≡ n
unfolding le16 le16_at
le16-again place n whole small stands = little-again 2 place n whole small stands

abbrev read : ℕ → ℕ → Result (ℕ × ℕ) PacFault
read n end = Ok (n, end)

read-same : (n m end other : ℕ) → n ≡ m → other ≡ end → read n other ≡ read m end
read-same n m end other number place = let f : n ≡ m = number in let h : other ≡ end = place in cc

-- a number whose octets are laid is read
pub u16-only : (n place end : ℕ) (whole : List ℕ) → n < 2 ^ 16 → IsLaid 2 (le16 n) place end whole → u16_at place whole ≡ Ok (n, end)
unfolding u16_at
u16-only n place end whole small is =
    let next : ℕ → Result (ℕ × ℕ) PacFault = λ at. Ok (le16_at at whole, at + 2) in
    let begin = aligned 2 place in
    let within : begin + 2 ≤ length whole = omega (arith, is.ends, is.inside) in
    step-ok (start_at 2 place whole) next begin (start-within 2 place whole within)
    ∙ read-same (le16_at begin whole) n end (begin + 2) (le16-again begin n whole small is.stands) (sym is.ends)

pub u32-only : (n place end : ℕ) (whole : List ℕ) → n < 2 ^ 32 → IsLaid 4 (le32 n) place end whole → u32_at place whole ≡ Ok (n, end)
unfolding u32_at
u32-only n place end whole small is =
    let next : ℕ → Result (ℕ × ℕ) PacFault = λ at. Ok (le32_at at whole, at + 4) in
    let begin = aligned 4 place in
    let within : begin + 4 ≤ length whole = omega (arith, is.ends, is.inside) in
    step-ok (start_at 4 place whole) next begin (start-within 4 place whole within)
    ∙ read-same (le32_at begin whole) n end (begin + 4) (le32-again begin n whole small is.stands) (sym is.ends)
