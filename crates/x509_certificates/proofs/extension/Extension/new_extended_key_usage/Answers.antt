use Rattle.std.proofs.Common.{ℕ, List, IsTrue, sym, subst}
use Rattle.x509_certificates.specs.declared.extension_value.ExtensionValue.TheVariants as kind
use Rattle.x509_certificates.specs.ExtensionValues.{is_value_of, belongs_purposes}
use Rattle.x509_certificates.proofs.extension.Extension.new_extended_key_usage.Goals as goal

pub invariant_of-result : goal.invariant_of-result
invariant_of-result c = record {
  of_its_id =
      subst (λ (arcs : List ℕ). IsTrue (is_value_of arcs (kind.ExtendedKeyUsage (record { 0 = c.args.purposes })))) (sym c.in_ok-oid.ensures.1)
      (belongs_purposes (record { 0 = c.args.purposes }));
}
