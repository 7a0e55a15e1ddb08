use Rattle.std.proofs.Common.{ℕ, List, sym, subst}
use Rattle.std.specs.Prelude.{IsTrue}
use Rattle.x509_algorithms.specs.declared.algorithm_kinds.AlgorithmIdentifierParameters.TheVariants as kind
use Rattle.x509_algorithms.specs.AlgorithmKinds.{is_parameters_of}
use Rattle.x509_algorithms.specs.Named.{aes192_has}
use Rattle.x509_algorithms.proofs.algorithm_identifier.AlgorithmIdentifier.new_aes192.Goals as goal

pub of_parts-requires : goal.of_parts-requires
of_parts-requires c = subst (λ (arcs : List ℕ). IsTrue (is_parameters_of arcs (kind.Aes c.args.params))) (sym c.in_ok-oid.ensures) (aes192_has c.args.mode c.args.params)
