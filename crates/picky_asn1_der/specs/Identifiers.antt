-- Identifier octets by their parts (X.690, section 8.1.2).
use Rattle.std.specs.Prelude.{◌≡◌, ℕ, zero, suc, ◌/◌, ◌%◌, Bool, true, ◌==◌, refl}
use Rattle.picky_asn1_der.specs.declared.tag.TagClass.{TagClass}
use Rattle.picky_asn1_der.specs.declared.tag.TagClass.TheVariants.{Universal, Application, ContextSpecific, Private}

-- table 1: the class in the bits 8 and 7
abbrev pub class_at : ℕ → TagClass
class_at zero = Universal
class_at (suc zero) = Application
class_at (suc (suc zero)) = ContextSpecific
class_at (suc (suc (suc more))) = Private

-- the class that the bits 8 and 7 of an identifier octet say (X.690, section 8.1.2.2)
abbrev pub class_of : ℕ → TagClass
class_of octet = class_at (octet / 64)

-- bit 6
abbrev pub is_constructed_octet : ℕ → Bool
is_constructed_octet octet = octet / 32 % 2 == 1

-- the bits 5 to 1
abbrev pub number_in : ℕ → ℕ
number_in octet = octet % 32

-- `30` is a SEQUENCE, universal 16; `61` the constructed [APPLICATION 1], `A1` the constructed [1], and `C5` the primitive [PRIVATE 5]
class-sequence : class_of 48 ≡ Universal
class-sequence = refl

number-sequence : number_in 48 ≡ 16
number-sequence = refl

constructed-sequence : is_constructed_octet 48 ≡ true
constructed-sequence = refl

class-application : class_of 97 ≡ Application
class-application = refl

class-context : class_of 161 ≡ ContextSpecific
class-context = refl

number-context : number_in 161 ≡ 1
number-context = refl

class-private : class_of 197 ≡ Private
class-private = refl
