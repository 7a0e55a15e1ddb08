use Rattle.std.proofs.Common.{sym, ap, ◌∙◌}
use Rattle.asn1_leaves.specs.ObjectIdentifier.{oid_content}
use Rattle.asn1_leaves.proofs.OidLemmas.{oid_content-injective}
use Rattle.x509_algorithms.specs.HashAlgorithms.{hash_arcs, hash_content_is, hash_arcs_valid}
use Rattle.x509_algorithms.proofs.hash_algorithm.HashAlgorithmTryFromObjectIdentifierAsn1.try_from.Goals as goal

pub returns-in-Some : goal.returns-in-Some
returns-in-Some c =
    oid_content-injective (hash_arcs c.in-Some.hash) c.args.oid.0 (hash_arcs_valid c.in-Some.hash) c.as_bytes.ensures.valid
    (hash_content_is c.in-Some.hash ∙ c.in-Some.ensures ∙ c.as_bytes.ensures.value)

pub returns-in-None : goal.returns-in-None
returns-in-None c = (c.of_identifier.ensures, λ h e. c.in-None.ensures h (sym (hash_content_is h) ∙ ap oid_content e ∙ sym c.as_bytes.ensures.value))
