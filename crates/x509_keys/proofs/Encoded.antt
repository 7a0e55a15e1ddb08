-- What a program holds has an encoding.
use Rattle.std.proofs.Common.{◌≡◌, ℕ, List, subst}
use Rattle.std.specs.Prelude.{IsTrue}
use Rattle.asn1_der.specs.Tree.{leaf, IsWhole}
use Rattle.asn1_der.proofs.Leaf.{whole-leaf}
use Rattle.asn1_leaves.specs.ObjectIdentifier.{IsObjectIdentifier, is_object_identifier, oid_content}
use Rattle.picky_asn1.specs.declared.wrapper.ObjectIdentifierAsn1.{ObjectIdentifierAsn1}
use Rattle.x509_algorithms.specs.declared.algorithm_identifier.AlgorithmIdentifier.{AlgorithmIdentifier}
use Rattle.x509_algorithms.specs.declared.algorithm_kinds.AlgorithmIdentifierParameters.{AlgorithmIdentifierParameters}
use Rattle.x509_algorithms.specs.declared.algorithm_kinds.AlgorithmIdentifierParameters.TheVariants as kind
use Rattle.x509_algorithms.specs.contracts.algorithm_identifier.AlgorithmIdentifierSerialize.TheImpl as algorithm_impl
use Rattle.x509_algorithms.specs.AlgorithmKinds.{is_parameters_of}
use Rattle.x509_algorithms.specs.Curves.{curve}
use Rattle.x509_algorithms.specs.contracts.aes_parameters.AesParametersSerialize.TheImpl as aes_impl
use Rattle.x509_algorithms.specs.declared.aes_parameters.AesParameters.{AesParameters}
use Rattle.x509_algorithms.specs.declared.aes_parameters.AesParameters.TheVariants as aes
use Rattle.x509_keys.specs.Encodings.{HasEncoding, IsCurveWhole}

oid_whole : (arcs : List ℕ) → IsObjectIdentifier arcs → IsWhole (leaf (is_object_identifier arcs) 6 (oid_content arcs))
oid_whole arcs valid = whole-leaf (is_object_identifier arcs) 6 (oid_content arcs) valid

aes_whole : (v : AesParameters) → IsWhole (aes_impl.ghosts.tree v)
aes_whole aes.Null = tt
aes_whole (aes.InitializationVector vector) = tt
aes_whole (aes.AuthenticatedEncryptionParameters params) = (tt, (tt, tt))

algorithm_of : (oid : ObjectIdentifierAsn1) (v : AlgorithmIdentifierParameters) (is : IsTrue (is_parameters_of oid.0 v)) → IsObjectIdentifier oid.0 → IsCurveWhole v
    → IsWhole (algorithm_impl.ghosts.tree (record { algorithm = oid; parameters = v; of_its_algorithm = is }))
algorithm_of oid kind.None is valid whole = (oid_whole oid.0 valid, tt)
algorithm_of oid kind.Null is valid whole = (oid_whole oid.0 valid, (tt, tt))
algorithm_of oid (kind.Aes params) is valid whole = (oid_whole oid.0 valid, (aes_whole params, tt))
algorithm_of oid (kind.Ec parameters) is valid whole = (oid_whole oid.0 valid, (oid_whole (curve parameters).0 whole, tt))
algorithm_of oid (kind.RsassaPss params) is valid whole =
    (oid_whole oid.0 valid, ((((tt, (tt, tt)), tt), (((tt, ((tt, (tt, tt)), tt)), tt), ((tt, tt), tt))), tt))

-- an algorithm whose object identifiers are such
pub encoded : (v : AlgorithmIdentifier) (arcs : List ℕ) (parameters : AlgorithmIdentifierParameters) → arcs ≡ v.algorithm.0 → IsObjectIdentifier arcs
    → parameters ≡ v.parameters → IsCurveWhole parameters → HasEncoding v
encoded v arcs parameters same valid also whole =
    algorithm_of v.algorithm v.parameters v.of_its_algorithm (subst IsObjectIdentifier same valid) (subst IsCurveWhole also whole)
