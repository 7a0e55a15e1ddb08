-- The extensions of a certificate are distinguished by the field that holds them.
use Rattle.std.proofs.Common.{◌≡◌, ℕ, List, ap}
use Rattle.std.proofs.Props.{props}
use Rattle.std.specs.Prelude.{⊤, Option, IsTrue}
use mathlib.Core.HLevel.{is_prop→PathP}
use Rattle.asn1_der.specs.Tree.{Trees}
use Rattle.asn1_der.specs.Firsts.{Firsts}
use Rattle.asn1_codec.specs.declared.optional.Optional.{Optional}
use Rattle.x509_certificates.specs.declared.extension.Extension.{Extension}
use Rattle.x509_spelling.specs.declared.enclosed.Explicit.{Explicit}
use Rattle.x509_spelling.specs.Laws.{RowLaws}
use Rattle.x509_certificates.specs.ExtensionsFields.{is_written}
use Rattle.x509_certificates.specs.declared.certificate_extensions.CertificateExtensions.{CertificateExtensions}

abbrev pub ExtensionsRow : Type 0
ExtensionsRow = Optional (Option (Explicit 3 (List Extension))) × ⊤

abbrev pub extensions_row : CertificateExtensions → ExtensionsRow
extensions_row v = (v.tagged, tt)

pub same_parts : (v w : CertificateExtensions) → v.tagged ≡ w.tagged → v ≡ w
same_parts v w fields =
    λ i. record {
      tagged = fields i;
      some_where_written = is_prop→PathP (λ j. IsTrue (is_written (fields j).0)) (λ j. hlevel props) v.some_where_written w.some_where_written i;
    }

pub same_extensions : (v w : CertificateExtensions) → extensions_row v ≡ extensions_row w → v ≡ w
same_extensions v w e =
    same_parts v w (ap (λ (f : ExtensionsRow). f.0) e)

-- fields that are distinguished by others
pub held_row : {R T : Type 0} (firsts : Firsts) (trees : R → Trees) (spells : R → List ℕ → ℕ → Type 0) → RowLaws firsts trees spells
    → (row_of : T → R) → ((v w : T) → row_of v ≡ row_of w → v ≡ w) → RowLaws firsts (λ v. trees (row_of v)) (λ v. spells (row_of v))
held_row firsts trees spells laws row_of told = record {
  strict = λ v. laws.strict (row_of v);
  only = λ v. laws.only (row_of v);
  whole = λ v. laws.whole (row_of v);
  one = λ v w b m n s r. let same = laws.one (row_of v) (row_of w) b m n s r in (told v w same.0, same.1);
  starts = λ v. laws.starts (row_of v);
}
