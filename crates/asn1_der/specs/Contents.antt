-- The octets of an element's content, which are in place or in memory of their own.
use Rattle.std.specs.Prelude.{ℕ, ◌≤◌, List, take, ⊤}
use Rattle.asn1_der.specs.declared.content.Octets.{Octets}
use Rattle.asn1_der.specs.declared.content.Octets.TheVariants.{InPlace, Owned}

abbrev pub octets_in : Octets → List ℕ
octets_in (InPlace octets count) = take count octets
octets_in (Owned octets) = octets.items

abbrev pub IsInPlace : Octets → Type 0
IsInPlace (InPlace octets count) = count ≤ 32
IsInPlace (Owned octets) = ⊤
