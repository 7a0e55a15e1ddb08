-- Keys with their algorithms are distinguished by their fields.
use Rattle.std.proofs.Common.{◌≡◌, ap, sym, ◌∙◌}
use Rattle.std.specs.Prelude.{IsTrue}
use mathlib.Core.HLevel.{is_prop→PathP}
use Rattle.x509_spelling.specs.ChosenLaws.{one_truth}
use Rattle.x509_algorithms.specs.declared.algorithm_identifier.AlgorithmIdentifier.{AlgorithmIdentifier}
use Rattle.x509_keys.specs.declared.public_key.PublicKey.{PublicKey}
use Rattle.x509_keys.specs.PublicKeys.{PublicKinds, kinds_of, key_made, key_back, is_key_of}
use Rattle.x509_keys.specs.declared.subject_public_key_info.SubjectPublicKeyInfo.{SubjectPublicKeyInfo}

abbrev pub public_row : SubjectPublicKeyInfo → AlgorithmIdentifier × PublicKinds
public_row v = (v.algorithm, kinds_of v.subject_public_key)

pub same_parts : (v w : SubjectPublicKeyInfo) → v.algorithm ≡ w.algorithm → v.subject_public_key ≡ w.subject_public_key → v ≡ w
same_parts v w algorithms keys =
    λ i. record {
      algorithm = algorithms i;
      subject_public_key = keys i;
      of_its_algorithm = is_prop→PathP (λ j. IsTrue (is_key_of (algorithms j).algorithm.0 (keys j)))
          (λ j. one_truth (is_key_of (algorithms j).algorithm.0 (keys j))) v.of_its_algorithm w.of_its_algorithm i;
    }

pub same_public : (v w : SubjectPublicKeyInfo) → public_row v ≡ public_row w → v ≡ w
same_public v w e =
    same_parts v w (ap (λ (f : AlgorithmIdentifier × PublicKinds). f.0) e)
    (sym (key_back v.subject_public_key) ∙ ap (λ (f : AlgorithmIdentifier × PublicKinds). key_made f.1) e ∙ key_back w.subject_public_key)
