-- No value holds an empty list that is written.
use Rattle.std.proofs.Common.{◌≡◌, Bool, true, false, List, Option, subst}
use Rattle.std.specs.Prelude.{IsTrue}
use Rattle.asn1_codec.specs.declared.optional.Optional.{Optional}
use Rattle.x509_certificates.specs.declared.extension.Extension.{Extension}
use Rattle.x509_spelling.specs.declared.enclosed.Explicit.{Explicit}
use Rattle.x509_certificates.specs.ExtensionsFields.{is_written}
use Rattle.x509_certificates.specs.declared.certificate_extensions.CertificateExtensions.{CertificateExtensions}

both : (b : Bool) → b ≡ true → b ≡ false → ⊥
both b is isnt = cc

pub never_empty : (v : CertificateExtensions) (field : Optional (Option (Explicit 3 (List Extension)))) → v.tagged ≡ field → is_written field.0 ≡ false → ⊥
never_empty v field same isnt =
    both (is_written field.0) (subst (λ (f : Optional (Option (Explicit 3 (List Extension)))). IsTrue (is_written f.0)) same v.some_where_written) isnt
