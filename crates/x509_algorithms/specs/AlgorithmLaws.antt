-- An algorithm with its parameters is distinguished by its fields.
use Rattle.std.proofs.Common.{◌≡◌, ap, sym, ◌∙◌, subst}
use Rattle.std.proofs.Props.{props}
use Rattle.std.specs.Prelude.{IsTrue, true}
use mathlib.Core.HLevel.{is_prop→PathP}
use Rattle.asn1_der.specs.Tree.{Tree, IsWhole, der}
use Rattle.asn1_der.proofs.Spelling.{IsInjective}
use Rattle.picky_asn1.specs.declared.wrapper.ObjectIdentifierAsn1.{ObjectIdentifierAsn1}
use Rattle.x509_algorithms.specs.declared.algorithm_identifier.AlgorithmIdentifier.{AlgorithmIdentifier}
use Rattle.x509_algorithms.specs.AlgorithmKinds.{AlgorithmKinds, kinds_of, kinds_by, parameters_made, parameters_back, is_parameters_of}

abbrev pub row_of : AlgorithmIdentifier → ObjectIdentifierAsn1 × AlgorithmKinds
row_of v = (v.algorithm, kinds_of v.algorithm.0 v.parameters)

-- the row that is written, where NULL and none are each of one kind
abbrev pub written_row : AlgorithmIdentifier → ObjectIdentifierAsn1 × AlgorithmKinds
written_row v = (v.algorithm, kinds_by true true v.parameters)

pub same_parts : (v w : AlgorithmIdentifier) → v.algorithm ≡ w.algorithm → v.parameters ≡ w.parameters → v ≡ w
same_parts v w ids values =
    λ i. record {
      algorithm = ids i;
      parameters = values i;
      of_its_algorithm = is_prop→PathP (λ j. IsTrue (is_parameters_of (ids j).0 (values j))) (λ j. hlevel props) v.of_its_algorithm w.of_its_algorithm i;
    }

pub same_algorithm : (v w : AlgorithmIdentifier) → row_of v ≡ row_of w → v ≡ w
same_algorithm v w e =
    same_parts v w (ap (λ (f : ObjectIdentifierAsn1 × AlgorithmKinds). f.0) e)
    (sym (parameters_back v.algorithm.0 v.parameters) ∙ ap (λ (f : ObjectIdentifierAsn1 × AlgorithmKinds). parameters_made f.1) e ∙ parameters_back w.algorithm.0 w.parameters)

-- what is written as what is told is told too
pub injective_by : {T : Type 0} (tree written : T → Tree) → ((v : T) → tree v ≡ written v) → IsInjective written → IsInjective tree
injective_by tree written same one v w whole also e =
    one v w (subst IsWhole (same v) whole) (subst IsWhole (same w) also) (sym (ap der (same v)) ∙ e ∙ ap der (same w))
