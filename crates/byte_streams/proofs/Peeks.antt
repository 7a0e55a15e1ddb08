-- What a peekable reader gives first is the octet that was looked at.
use Rattle.std.proofs.Common.{◌≡◌, ℕ, ◌<◌, List, [], ◌∷◌, ◌++◌, length, Option, None, Some, refl, ap, ◌∙◌, arith, take, slice_set}
use Rattle.std.specs.Io.KnownBytes.{Consumes}
use Rattle.byte_streams.specs.Peeking.{seen}

front : (buffer : List ℕ) (octet : ℕ) → 0 < length buffer → octet ∷ [] ≡ take 1 (slice_set buffer 0 octet)
front [] octet some = absurd (omega arith)
front (b ∷ bs) octet some = refl

pub seen-consumed : (looked : Option ℕ) (left : Option (List ℕ)) (octet : ℕ) (buffer : List ℕ) → looked ≡ Some octet → 0 < length buffer
    → Consumes (seen looked left) left (take 1 (slice_set buffer 0 octet))
seen-consumed None left octet buffer e some = absurd (cc (e))
seen-consumed (Some o) None octet buffer e some = tt
seen-consumed (Some o) (Some xs) octet buffer e some =
    let same : o ≡ octet = cc (e) in
    ap (λ x. (x ∷ []) ++ xs) same ∙ ap (λ l. l ++ xs) (front buffer octet some)
