-- A digest after its hash as a row of fields.
use Rattle.std.proofs.Common.{◌≡◌, ℕ, List, sym, ap, ◌∙◌}
use Rattle.std.proofs.Props.{props}
use Rattle.std.specs.Prelude.{⊤, IsTrue}
use mathlib.Core.HLevel.{is_prop→PathP}
use Rattle.asn1_leaves.specs.ObjectIdentifier.{oid_content}
use Rattle.x509_algorithms.specs.declared.digest_info.DigestInfo.{DigestInfo}
use Rattle.x509_algorithms.specs.declared.hash_identifier.HashIdentifier.{HashIdentifier}
use Rattle.x509_algorithms.specs.declared.algorithm_kinds.AlgorithmIdentifierParameters.TheVariants as kind
use Rattle.x509_algorithms.specs.AlgorithmClasses.{is_hash}
use Rattle.x509_algorithms.specs.AlgorithmLaws.{same_parts}
use Rattle.x509_algorithms.specs.HashIdentifiers.{hash_parameters}

abbrev pub DigestRow : Type 0
DigestRow = HashIdentifier × (List ℕ × ⊤)

abbrev pub digest_row : DigestInfo → DigestRow
digest_row v = (record { oid = v.oid.algorithm; of_a_hash = v.of_a_hash }, (v.digest, tt))

pub has_null : (v : DigestInfo) → v.oid.parameters ≡ kind.Null
has_null v = hash_parameters v.oid.algorithm.0 v.oid.parameters v.oid.of_its_algorithm v.of_a_hash

pub same_digest : (v w : DigestInfo) → v.oid ≡ w.oid → v.digest ≡ w.digest → v ≡ w
same_digest v w ids digests =
    λ i. record {
      oid = ids i;
      digest = digests i;
      of_a_hash = is_prop→PathP (λ j. IsTrue (is_hash (oid_content (ids j).algorithm.0))) (λ j. hlevel props) v.of_a_hash w.of_a_hash i;
    }

pub one_digest : (v w : DigestInfo) → digest_row v ≡ digest_row w → v ≡ w
one_digest v w e =
    let ids : v.oid ≡ w.oid = same_parts v.oid w.oid (ap (λ (f : DigestRow). f.0.oid) e) (has_null v ∙ sym (has_null w)) in
    same_digest v w ids (ap (λ (f : DigestRow). f.1.0) e)
