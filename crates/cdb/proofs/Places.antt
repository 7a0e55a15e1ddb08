-- Octets that stand at a position of others.
use Rattle.std.proofs.Common.{◌≡◌, ℕ, ◌+◌, ◌*◌, ◌^◌, ◌<◌, ◌≤◌, List, [], ◌++◌, length, take, drop, Ok, refl, sym, ap, ◌∙◌, append_assoc, append-nil, length-append, arith}
use Rattle.std.proofs.lemmas.List.{drop_at, take_at}
use Rattle.byte_streams.specs.Numbers.{le32, le32_at}
use Rattle.byte_streams.proofs.NumberLaws.{le32-again, le32_at-append, length-le32}
use Rattle.cdb.specs.declared.format.TheConstants.{PAIR_SIZE}
use Rattle.cdb.specs.Database.{pair_octets}
use Rattle.cdb.specs.Find.{pair_at, part_at}
use Rattle.cdb.proofs.Positions.{part_is}

-- The part stands at the position of the whole.
pub record At (whole : List ℕ) (position : ℕ) (part : List ℕ) : Type 0 where
  pub front : List ℕ
  pub back : List ℕ
  pub is : whole ≡ front ++ (part ++ back)
  pub sized : length front ≡ position

pub at_left : (a b : List ℕ) → At (a ++ b) 0 a
at_left a b = record { front = []; back = b; is = refl; sized = refl }

pub at_right : (a b : List ℕ) → At (a ++ b) (length a) b
at_right a b = record { front = a; back = []; is = ap (λ c. a ++ c) (sym (append-nil b)); sized = refl }

regroup : (f1 f2 part b2 b1 : List ℕ) → f1 ++ ((f2 ++ (part ++ b2)) ++ b1) ≡ (f1 ++ f2) ++ (part ++ (b2 ++ b1))
regroup f1 f2 part b2 b1 = simp append_assoc

-- what stands in a part stands in the whole
pub at_inner : (whole middle part : List ℕ) (position inner place : ℕ) → At whole position middle → At middle inner part → place ≡ position + inner → At whole place part
at_inner whole middle part position inner place outer own sum = record {
  front = outer.front ++ own.front;
  back = own.back ++ outer.back;
  is = outer.is ∙ ap (λ m. outer.front ++ (m ++ outer.back)) own.is ∙ regroup outer.front own.front part own.back outer.back;
  sized = let both = length-append outer.front own.front in let one = outer.sized in let two = own.sized in omega (arith, both, one, two, sum);
}

pub at_same : (whole part : List ℕ) (position place : ℕ) → At whole position part → place ≡ position → At whole place part
at_same whole part position place at same = record { front = at.front; back = at.back; is = at.is; sized = at.sized ∙ sym same }

pub at_within : (whole part : List ℕ) (position : ℕ) → At whole position part → position + length part ≤ length whole
at_within whole part position at =
    let one : length whole ≡ length (at.front ++ (part ++ at.back)) = ap length at.is in
    let two = length-append at.front (part ++ at.back) in
    let three = length-append part at.back in
    let four = at.sized in
    omega (arith, one, two, three, four)

-- it is read there
pub part_of : (whole part : List ℕ) (position size : ℕ) → At whole position part → size ≡ length part → part_at position size whole ≡ Ok part
part_of whole part position size at sized =
    let within = at_within whole part position at in
    part_is position size whole part (omega (arith, within, sized))
    (sym (ap (λ o. take size (drop position o)) at.is ∙ ap (take size) (drop_at at.front (part ++ at.back) position at.sized) ∙ take_at part at.back size (sym sized)))

pub length-pair : (a b : ℕ) → length (pair_octets a b) ≡ PAIR_SIZE
length-pair a b =
    let one = length-append (le32 a) (le32 b) in
    let two = length-le32 a in
    let three = length-le32 b in
    omega (arith, one, two, three)

number_alone : (a : ℕ) → a < 2 ^ 32 → le32_at 0 (le32 a) ≡ a
unfolding le32
number_alone a fits = le32-again 0 a (le32 a) fits refl

first_of_pair : (a b : ℕ) → a < 2 ^ 32 → le32_at 0 (pair_octets a b) ≡ a
first_of_pair a b fits = le32_at-append 0 (le32 a) (le32 b) (omega (arith, length-le32 a)) ∙ number_alone a fits

second_of_pair : (a b : ℕ) → b < 2 ^ 32 → le32_at 4 (pair_octets a b) ≡ b
unfolding le32
second_of_pair a b fits = le32-again 4 b (pair_octets a b) fits refl

pub pair_of : (whole : List ℕ) (position a b : ℕ) → At whole position (pair_octets a b) → a < 2 ^ 32 → b < 2 ^ 32 → pair_at position whole ≡ Ok (a, b)
unfolding pair_at
pair_of whole position a b at small_a small_b =
    rw (part_of whole (pair_octets a b) position PAIR_SIZE at (sym (length-pair a b)), first_of_pair a b small_a, second_of_pair a b small_b) refl
