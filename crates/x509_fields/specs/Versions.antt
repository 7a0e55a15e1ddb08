-- Versions and their numbers (RFC 5280, section 4.1.2.1).
use Rattle.std.proofs.Common.{◌≡◌, ℕ, List, [], ◌∷◌, refl, sym, ◌∙◌, arith}
use Rattle.std.specs.Prelude.{◌==◌, IsTrue}
use Rattle.std.proofs.lemmas.Bool.{eqb-true}
use Rattle.x509_fields.specs.declared.version.Version.{Version}
use Rattle.x509_fields.specs.declared.version.Version.TheVariants.{V1, V2, V3}

-- The number of a version: v1 is 0, v2 is 1 and v3 is 2 (RFC 5280, section 4.1.2.1).
abbrev pub version_number : Version → ℕ
version_number V1 = 0
version_number V2 = 1
version_number V3 = 2

-- an INTEGER of one octet (X.690, section 8.3)
abbrev pub version_content : Version → List ℕ
version_content version = version_number version ∷ []

first_of_list : (a b : ℕ) → a ∷ [] ≡ b ∷ [] → a ≡ b
first_of_list a b e = cc

same_version : (v w : Version) → version_number v ≡ version_number w → v ≡ w
same_version V1 V1 e = refl
same_version V2 V2 e = refl
same_version V3 V3 e = refl
same_version V1 V2 e = absurd (omega (arith, e))
same_version V1 V3 e = absurd (omega (arith, e))
same_version V2 V1 e = absurd (omega (arith, e))
same_version V2 V3 e = absurd (omega (arith, e))
same_version V3 V1 e = absurd (omega (arith, e))
same_version V3 V2 e = absurd (omega (arith, e))

pub version_content-injective : (v w : Version) → version_content v ≡ version_content w → v ≡ w
version_content-injective v w e = same_version v w (first_of_list (version_number v) (version_number w) e)

pub one_version_1 : (v w : Version) → IsTrue (version_number v == 0) → IsTrue (version_number w == 0) → v ≡ w
one_version_1 v w left right = same_version v w (eqb-true (version_number v) 0 left ∙ sym (eqb-true (version_number w) 0 right))
