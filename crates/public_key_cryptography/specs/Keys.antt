-- Keys that are refused.
use Rattle.std.specs.Prelude.{ℕ, ◌%◌, Bool, ◌||◌, ◌&&◌, nat_eq, nat_lt, List, length, slice_index, Option, Some, None, if◌then◌else◌}
use Rattle.modular_arithmetic.specs.declared.modulus.ModulusRefusal.{ModulusRefusal}
use Rattle.modular_arithmetic.specs.Naturals.{os2ip}
use Rattle.modular_arithmetic.specs.Refusals.{refusal_of as modulus_refusal_of}
use Rattle.public_key_cryptography.specs.declared.public_key.KeyRefusal.{KeyRefusal}
use Rattle.public_key_cryptography.specs.declared.public_key.KeyRefusal.TheVariants.{Modulus, KeyTooWeak, ExponentTooLong, ExponentTooSmall, ExponentZeroInFront, EvenExponent}

-- a modulus without a zero octet in front has fewer than 2,048 bits
abbrev pub is_weak : List ℕ → Bool
is_weak n = nat_lt (length n) 256 || nat_eq (length n) 256 && nat_lt (slice_index n 0) 128

-- why a public exponent is refused; the first case that holds counts
abbrev pub exponent_refusal : List ℕ → Option KeyRefusal
exponent_refusal e =
    if nat_lt 8 (length e) then Some ExponentTooLong
    else if nat_lt (os2ip e) 2 then Some ExponentTooSmall
    else if nat_eq (slice_index e 0) 0 then Some ExponentZeroInFront
    else if nat_eq (os2ip e % 2) 0 then Some EvenExponent
    else None

-- why modulus and public exponent are refused, where the modulus is odd and of a fit length
abbrev pub further_refusal : List ℕ → List ℕ → Option KeyRefusal
further_refusal n e = if is_weak n then Some KeyTooWeak else exponent_refusal e

-- a modulus's own refusal comes first
abbrev pub after_modulus : Option ModulusRefusal → Option KeyRefusal → Option KeyRefusal
after_modulus (Some refusal) further = Some (Modulus refusal)
after_modulus None further = further

-- why a modulus is refused with a public exponent
unfoldable pub refusal_of : List ℕ → List ℕ → Option KeyRefusal
refusal_of n e = after_modulus (modulus_refusal_of n) (further_refusal n e)
