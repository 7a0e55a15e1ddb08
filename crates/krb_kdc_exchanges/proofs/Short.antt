-- Bytes of which there are so many at most, and the encodings that hold them: what an encoding holds is as short, and what
-- encodings are made of makes one that is a few bytes longer.
use Rattle.std.proofs.Common.{◌<◌, ◌≤◌, ℕ, zero, suc, ◌+◌, ◌/◌, ◌%◌, ◌^◌, Bool, true, false, List, [], ◌∷◌, ◌++◌, length, Option, None, Some, nat_lt, refl, sym, subst, inl, inr, if◌then◌else◌, arith}
use Rattle.std.specs.Prelude.{pos, slice_index_or}
use Rattle.std.specs.Int.Digits.{AllBelowBase, digits_of}
use Rattle.std.proofs.lemmas.Bool.{cases_lt}
use Rattle.std.proofs.lemmas.Int.Digits.{all_below_base_digits_of, length-digits_of-le}
use Rattle.std.proofs.lemmas.List.{drop_at, length-append, take_at}
use Rattle.asn1_der.specs.Length.{digits, element, length_octets}
use Rattle.asn1_der.specs.Tree.{Tree, Trees, absent, constructed, der, ders, more, none, primitive, put, wrapped}
use Rattle.asn1_der.proofs.Digits.{digits-is}
use Rattle.asn1_der.proofs.Elements.{element-split, length_octets-long, length_octets-short}
use Rattle.asn1_leaves.specs.declared.date.GeneralizedTime.{GeneralizedTime}
use Rattle.asn1_leaves.specs.Calendar.{days_in_month, two_digits}
use Rattle.asn1_leaves.specs.GeneralizedTime.{time_text}
use Rattle.picky_asn1.specs.Integer.{integer_content, natural_octets}
use Rattle.block_ciphers.specs.Bytes.{IsBytes}
use Rattle.block_ciphers.proofs.States.{IsBytes-append, IsBytes-drop, IsBytes-none, IsBytes-take}

-- bytes, of which there are so many at most
pub record IsShort (n : ℕ) (s : List ℕ) : Type 0 where
  pub bytes : IsBytes s
  pub short : length s ≤ n

pub longer : (m n : ℕ) (s : List ℕ) → m ≤ n → IsShort m s → IsShort n s
longer m n s fewer x = record { bytes = x.bytes; short = omega (arith, x.short) }

pub IsBytes-cons : (octet : ℕ) (s : List ℕ) → octet < 256 → IsBytes s → IsBytes (octet ∷ s)
IsBytes-cons octet s fits rest zero = fits
IsBytes-cons octet s fits rest (suc i) = rest i

pub short_none : IsShort 0 []
short_none = record { bytes = IsBytes-none; short = omega arith }

pub short_cons : (n octet : ℕ) (s : List ℕ) → octet < 256 → IsShort n s → IsShort (n + 1) (octet ∷ s)
short_cons n octet s fits x = record { bytes = IsBytes-cons octet s fits x.bytes; short = omega (arith, x.short) }

pub short_both : (m n : ℕ) (s t : List ℕ) → IsShort m s → IsShort n t → IsShort (m + n) (s ++ t)
short_both m n s t x y = record { bytes = IsBytes-append s t x.bytes y.bytes; short = omega (arith, length-append s t, x.short, y.short) }

-- the parts of short bytes
pub short_front : (n : ℕ) (s t : List ℕ) → IsShort n (s ++ t) → IsShort n s
short_front n s t x = record {
  bytes = subst IsBytes (take_at s t (length s) refl) (IsBytes-take (length s) (s ++ t) x.bytes);
  short = omega (arith, length-append s t, x.short);
}

pub short_back : (n : ℕ) (s t : List ℕ) → IsShort n (s ++ t) → IsShort n t
short_back n s t x = record {
  bytes = subst IsBytes (drop_at s t (length s) refl) (IsBytes-drop (length s) (s ++ t) x.bytes);
  short = omega (arith, length-append s t, x.short);
}

below_bytes : (ds : List ℕ) → AllBelowBase 256 ds → IsBytes ds
below_bytes [] below = IsBytes-none
below_bytes (d ∷ ds) below = IsBytes-cons d ds below.0 (below_bytes ds below.1)

-- a length below 2^72 has ten length octets at most
short_digits : (n : ℕ) → n < 2 ^ 72 → IsShort 9 (digits n)
short_digits n few =
    subst (IsShort 9) (sym (digits-is n))
    (record { bytes = below_bytes (digits_of 256 n) (all_below_base_digits_of 256 n (omega arith)); short = length-digits_of-le 256 9 n (omega arith) few })

short_length : (n : ℕ) → n < 2 ^ 72 → IsShort 10 (length_octets n)
short_length n few =
    elim (cases_lt n 128) [
      | inl below ↦ subst (IsShort 10) (sym (length_octets-short n below)) (longer 1 10 (n ∷ []) (omega arith) (short_cons 0 n [] (omega arith) short_none))
      | inr above ↦
          (let own = short_digits n few in
          subst (IsShort 10) (sym (length_octets-long n above)) (short_cons 9 (128 + length (digits n)) (digits n) (omega (arith, own.short)) own))
    ]

-- an element, and what is in it
pub short_element : (n first : ℕ) (content : List ℕ) → first < 256 → n < 2 ^ 72 → IsShort n content → IsShort (n + 11) (element first content)
unfolding element
short_element n first content fits few x =
    longer (10 + n + 1) (n + 11) (first ∷ (length_octets (length content) ++ content)) (omega arith)
    (short_cons (10 + n) first (length_octets (length content) ++ content) fits
    (short_both 10 n (length_octets (length content)) content (short_length (length content) (omega (arith, x.short))) x))

pub short_content : (n first : ℕ) (content : List ℕ) → IsShort n (element first content) → IsShort n content
short_content n first content x = short_back n (first ∷ length_octets (length content)) content (subst (IsShort n) (element-split first content) x)

-- what is written of a tree, and of trees, is short
pub record Fits (n : ℕ) (tree : Tree) : Type 0 where
  pub written : IsShort n (der tree)

pub record AllFit (n : ℕ) (trees : Trees) : Type 0 where
  pub written : IsShort n (ders trees)

pub looser : (m n : ℕ) (tree : Tree) → m ≤ n → Fits m tree → Fits n tree
looser m n tree fewer x = record { written = longer m n (der tree) fewer x.written }

pub looser_all : (m n : ℕ) (trees : Trees) → m ≤ n → AllFit m trees → AllFit n trees
looser_all m n trees fewer x = record { written = longer m n (ders trees) fewer x.written }

pub no_trees : AllFit 0 none
no_trees = record { written = short_none }

pub more_trees : (m n : ℕ) (tree : Tree) (trees : Trees) → Fits m tree → AllFit n trees → AllFit (m + n) (more tree trees)
more_trees m n tree trees x y = record { written = short_both m n (der tree) (ders trees) x.written y.written }

pub one_tree : (n : ℕ) (tree : Tree) → Fits n tree → AllFit n (more tree none)
one_tree n tree x = record { written = longer (n + 0) n (der tree ++ []) (omega arith) (short_both n 0 (der tree) [] x.written short_none) }

pub fits_primitive : (n first : ℕ) (content : List ℕ) → first < 256 → n < 2 ^ 72 → IsShort n content → Fits (n + 11) (primitive first content)
fits_primitive n first content fits few x = record { written = short_element n first content fits few x }

pub fits_constructed : (n first : ℕ) (parts : Trees) → first < 256 → n < 2 ^ 72 → AllFit n parts → Fits (n + 11) (constructed first parts)
fits_constructed n first parts fits few x = record { written = short_element n first (ders parts) fits few x.written }

pub fits_absent : (n : ℕ) → Fits n absent
fits_absent n = record { written = longer 0 n [] (omega arith) short_none }

pub fits_wrapped : (n first : ℕ) (tree : Tree) → first < 256 → n < 2 ^ 72 → Fits n tree → Fits (n + 11) (wrapped first tree)
fits_wrapped n first (primitive own content) fits few x = fits_constructed n first (more (primitive own content) none) fits few (one_tree n (primitive own content) x)
fits_wrapped n first (constructed own parts) fits few x = fits_constructed n first (more (constructed own parts) none) fits few (one_tree n (constructed own parts) x)
fits_wrapped n first absent fits few x = fits_absent (n + 11)

-- what is in a tree
pub head : (n : ℕ) (tree : Tree) (trees : Trees) → AllFit n (more tree trees) → Fits n tree
head n tree trees x = record { written = short_front n (der tree) (ders trees) x.written }

pub tail : (n : ℕ) (tree : Tree) (trees : Trees) → AllFit n (more tree trees) → AllFit n trees
tail n tree trees x = record { written = short_back n (der tree) (ders trees) x.written }

pub behind_optional : {A : Type 0} (n : ℕ) (tree : A → Tree) (value : Option A) (trees : Trees) → AllFit n (put tree value trees) → AllFit n trees
behind_optional n tree None trees x = x
behind_optional n tree (Some value) trees x = tail n (tree value) trees x

pub content_of : (n first : ℕ) (content : List ℕ) → Fits n (primitive first content) → IsShort n content
content_of n first content x = short_content n first content x.written

pub inside : (n first : ℕ) (parts : Trees) → Fits n (constructed first parts) → AllFit n parts
inside n first parts x = record { written = short_content n first (ders parts) x.written }

-- under a further tag, which its tree was computed to
pub in_tag : (n first : ℕ) (tree : Tree) → Fits n (constructed first (more tree none)) → Fits n tree
in_tag n first tree x = head n tree none (inside n first (more tree none) x)

-- or which it wasn't
pub in_wrapped : (n first : ℕ) (tree : Tree) → Fits n (wrapped first tree) → Fits n tree
in_wrapped n first (primitive own content) x = in_tag n first (primitive own content) x
in_wrapped n first (constructed own parts) x = in_tag n first (constructed own parts) x
in_wrapped n first absent x = x

-- a number that isn't negative
signed_short : (n : ℕ) (low : Bool) (ds : List ℕ) → IsShort n ds → IsShort (n + 1) (if low then ds else 0 ∷ ds)
signed_short n true ds x = longer n (n + 1) ds (omega arith) x
signed_short n false ds x = short_cons n 0 ds (omega arith) x

pub number_short : (n : ℕ) → n < 1000000 → IsShort 4 (integer_content (pos n))
unfolding integer_content natural_octets
number_short n few =
    signed_short 3 (nat_lt (slice_index_or (digits_of 256 n) 0 128) 128) (digits_of 256 n)
    (record { bytes = below_bytes (digits_of 256 n) (all_below_base_digits_of 256 n (omega arith)); short = length-digits_of-le 256 3 n (omega arith) (omega arith) })

-- a time
two_short : (n : ℕ) → n < 100 → IsShort 2 (two_digits n)
two_short n few = short_cons 1 (48 + n / 10) ((48 + n % 10) ∷ []) (omega arith) (short_cons 0 (48 + n % 10) [] (omega arith) short_none)

no_more_days : (year month : ℕ) → days_in_month year month ≤ 31
no_more_days year month = grind (arith)

pub time_short : (t : GeneralizedTime) → IsShort 15 (time_text t)
time_short t =
    let days = no_more_days t.year t.month in
    let a = two_short (t.year / 100) (omega (arith, t.on_calendar.0)) in
    let b = two_short (t.year % 100) (omega arith) in
    let c = two_short t.month (omega (arith, t.on_calendar.1.1)) in
    let d = two_short t.day (omega (arith, days, t.on_calendar.2.1)) in
    let e = two_short t.hour (omega (arith, t.on_clock.0)) in
    let f = two_short t.minute (omega (arith, t.on_clock.1)) in
    let g = two_short t.second (omega (arith, t.on_clock.2)) in
    let z : IsShort 1 (90 ∷ []) = short_cons 0 90 [] (omega arith) short_none in
    short_both 14 1 _ _ (short_both 12 2 _ _ (short_both 10 2 _ _ (short_both 8 2 _ _ (short_both 6 2 _ _ (short_both 4 2 _ _ (short_both 2 2 _ _ a b) c) d) e) f) g) z
