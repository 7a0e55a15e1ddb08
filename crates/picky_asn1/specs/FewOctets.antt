-- Octets that are in place or in memory of their own.
use Rattle.std.specs.Prelude.{ℕ, ◌≤◌, List, take, ⊤}
use Rattle.picky_asn1.specs.declared.few_octets.Octets.{Octets}
use Rattle.picky_asn1.specs.declared.few_octets.Octets.TheVariants.{InPlace, Owned}

abbrev pub octets_in : Octets → List ℕ
octets_in (InPlace octets count) = take count octets
octets_in (Owned octets) = octets.items

abbrev pub IsInPlace : Octets → Type 0
IsInPlace (InPlace octets count) = count ≤ 16
IsInPlace (Owned octets) = ⊤
