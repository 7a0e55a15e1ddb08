use Rattle.std.proofs.Common.{sym, ap, ◌∙◌}
use Rattle.asn1_leaves.specs.ObjectIdentifier.{oid_content}
use Rattle.asn1_leaves.proofs.OidLemmas.{oid_content-injective}
use Rattle.x509_algorithms.specs.ShaVariants.{sha_arcs, sha_content_is, sha_arcs_valid}
use Rattle.x509_algorithms.proofs.sha_variant.ShaVariantTryFromObjectIdentifierAsn1.try_from.Goals as goal

pub returns-in-Some : goal.returns-in-Some
returns-in-Some c =
    oid_content-injective (sha_arcs c.in-Some.hash) c.args.oid.0 (sha_arcs_valid c.in-Some.hash) c.as_bytes.ensures.valid
    (sha_content_is c.in-Some.hash ∙ c.in-Some.ensures ∙ c.as_bytes.ensures.value)

pub returns-in-None : goal.returns-in-None
returns-in-None c = (c.of_identifier.ensures, λ h e. c.in-None.ensures h (sym (sha_content_is h) ∙ ap oid_content e ∙ sym c.as_bytes.ensures.value))
