-- A BOOLEAN's content writes one truth.
use Rattle.std.proofs.Common.{◌≡◌, Bool, true, false, refl, ap, arith, get_or}
use Rattle.asn1_codec.specs.Booleans.{bool_content}

pub bool_content-injective : (v w : Bool) → bool_content v ≡ bool_content w → v ≡ w
bool_content-injective false false e = refl
bool_content-injective true true e = refl
bool_content-injective false true e = absurd (omega (arith, ap (λ octets. get_or octets 0 0) e))
bool_content-injective true false e = absurd (omega (arith, ap (λ octets. get_or octets 0 0) e))
