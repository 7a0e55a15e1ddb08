-- The extensions of a certificate, which are written where there are any (RFC 5280, section 4.1).
use Rattle.std.specs.Prelude.{Bool, true, false, List, [], ◌∷◌, Option, None, Some}
use Rattle.x509_certificates.specs.declared.extension.Extension.{Extension}
use Rattle.x509_spelling.specs.declared.enclosed.Explicit.{Explicit}

abbrev pub has_some : {A : Type 0} → List A → Bool
has_some [] = false
has_some (first ∷ rest) = true

-- An empty list of extensions is refused (RFC 5280, section 4.1.2.9). Test: `certificate, empty extensions` of `read.txt`.
abbrev pub is_written : Option (Explicit 3 (List Extension)) → Bool
is_written None = true
is_written (Some field) = has_some field.0

-- The extensions of a certificate: none where the field is missing (RFC 5280, section 4.1.2.9).
abbrev pub extensions_in : Option (Explicit 3 (List Extension)) → List Extension
extensions_in None = []
extensions_in (Some field) = field.0
