-- Algorithms that have a DER encoding.
use Rattle.std.specs.Prelude.{⊤, refl}
use Rattle.asn1_der.specs.Tree.{Tree, Trees, primitive, constructed, absent, more, none, bare, AreWhole, IsWhole}
use Rattle.asn1_leaves.specs.ObjectIdentifier.{IsObjectIdentifier}
use Rattle.x509_algorithms.specs.declared.algorithm_identifier.AlgorithmIdentifier.{AlgorithmIdentifier}
use Rattle.x509_algorithms.specs.declared.algorithm_kinds.AlgorithmIdentifierParameters.{AlgorithmIdentifierParameters}
use Rattle.x509_algorithms.specs.declared.algorithm_kinds.AlgorithmIdentifierParameters.TheVariants.{Ec}
use Rattle.x509_algorithms.specs.contracts.algorithm_identifier.AlgorithmIdentifierSerialize.TheImpl as algorithm_impl
use Rattle.x509_algorithms.specs.Curves.{curve}

-- the algorithm has a DER encoding: nothing is missing in its tree, since its object identifiers are such
abbrev pub HasEncoding : AlgorithmIdentifier → Type 0
HasEncoding algorithm = IsWhole (algorithm_impl.ghosts.tree algorithm)

-- the curve's identifier is one, if the parameters are a curve
abbrev pub IsCurveWhole : AlgorithmIdentifierParameters → Type 0
IsCurveWhole (Ec parameters) = IsObjectIdentifier (curve parameters).0
IsCurveWhole parameters = ⊤

-- that nothing is missing in a tree has one proof at most
mutual
  whole-prop : (tree : Tree) → IsProp (IsWhole tree)
  whole-prop (primitive first content) = λ p q. refl
  whole-prop (constructed first parts) = wholes-prop parts
  whole-prop absent = λ p. absurd p

  wholes-prop : (trees : Trees) → IsProp (AreWhole trees)
  wholes-prop none = λ p q. refl
  wholes-prop (more tree trees) = λ p q i. (whole-prop tree p.0 q.0 i, wholes-prop trees p.1 q.1 i)
  wholes-prop (bare octet trees) = wholes-prop trees

pub encoding-prop : (algorithm : AlgorithmIdentifier) → IsProp (HasEncoding algorithm)
encoding-prop algorithm = whole-prop (algorithm_impl.ghosts.tree algorithm)
