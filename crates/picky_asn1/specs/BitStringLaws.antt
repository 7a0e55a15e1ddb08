-- A bit string has one content.
use Rattle.std.specs.Prelude.{◌≡◌, slice_index}
use Rattle.std.proofs.Common.{ap, drop}
use Rattle.picky_asn1.specs.BitString.{Bits, bit_content}

pub bit_content-injective : (v w : Bits) → bit_content v ≡ bit_content w → v ≡ w
bit_content-injective v w e = λ i. record { octets = ap (drop 1) e i; unused = ap (λ l. slice_index l 0) e i }
