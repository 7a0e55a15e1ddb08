use Rattle.std.proofs.Common.{ℕ, List, sym, subst}
use Rattle.std.specs.Prelude.{IsTrue}
use Rattle.x509_algorithms.specs.declared.algorithm_kinds.AlgorithmIdentifierParameters.TheVariants as kind
use Rattle.x509_algorithms.specs.AlgorithmKinds.{is_parameters_of}
use Rattle.x509_algorithms.specs.Named.{curve_key_has}
use Rattle.x509_algorithms.proofs.algorithm_identifier.AlgorithmIdentifier.new_elliptic_curve.Goals as goal

pub of_parts-requires : goal.of_parts-requires
of_parts-requires c = subst (λ (arcs : List ℕ). IsTrue (is_parameters_of arcs (kind.Ec c.args.curve))) (sym c.in_ok-oid.ensures.1) (curve_key_has c.args.curve)
