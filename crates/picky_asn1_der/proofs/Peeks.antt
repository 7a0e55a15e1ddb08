-- What a peekable reader gives first are the octets that are looked at.
use Rattle.std.proofs.Common.{◌≡◌, ℕ, ◌<◌, List, [], ◌∷◌, ◌++◌, length, take, Option, None, Some, refl, sym, ap, subst, arith, slice_set}
use Rattle.std.specs.Io.KnownBytes.{Consumes}
use Rattle.picky_asn1_der.specs.Peeking.{Peeking, seen_before, left_of}

-- the first of what is looked at is taken
pub first_taken : (seen now : List ℕ) (octet : ℕ) (left : Option (List ℕ)) → seen ≡ octet ∷ now → Consumes (seen_before seen left) (seen_before now left) (octet ∷ [])
first_taken [] now octet left e = absurd (cc (e))
first_taken (o ∷ os) now octet None e = tt
first_taken (o ∷ os) [] octet (Some xs) e = ap (λ l. l ++ xs) e
first_taken (o ∷ os) (n ∷ ns) octet (Some xs) e = ap (λ l. l ++ xs) e

front_set : (buffer : List ℕ) (octet : ℕ) → 0 < length buffer → octet ∷ [] ≡ take 1 (slice_set buffer 0 octet)
front_set [] octet some = absurd (omega arith)
front_set (b ∷ bs) octet some = refl

pub first_read : (old : Peeking) (seen now buffer : List ℕ) (octet : ℕ) (left : Option (List ℕ)) → left_of old ≡ seen_before seen left
    → seen ≡ octet ∷ now → 0 < length buffer → Consumes (left_of old) (seen_before now left) (take 1 (slice_set buffer 0 octet))
first_read old seen now buffer octet left is first some =
    subst (λ l. Consumes l (seen_before now left) (take 1 (slice_set buffer 0 octet))) (sym is)
    (subst (Consumes (seen_before seen left) (seen_before now left)) (front_set buffer octet some) (first_taken seen now octet left first))
