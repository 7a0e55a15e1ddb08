-- Private keys with their algorithms are distinguished by their fields.
use Rattle.std.proofs.Common.{◌≡◌, ℕ, ap, sym, ◌∙◌}
use Rattle.std.specs.Prelude.{IsTrue}
use mathlib.Core.HLevel.{is_prop→PathP}
use Rattle.x509_algorithms.specs.declared.algorithm_identifier.AlgorithmIdentifier.{AlgorithmIdentifier}
use Rattle.x509_spelling.specs.ChosenLaws.{one_truth}
use Rattle.x509_keys.specs.PrivateKeys.{PrivateKinds, private_kinds, private_made, behind_made, private_back, behind_back, is_private_of}
use Rattle.x509_keys.specs.PublicKeyFields.{PublicKeyField}
use Rattle.x509_keys.specs.declared.private_key_fields.PrivateKeyFields.{PrivateKeyFields}

abbrev pub PrivateRow : Type 0
PrivateRow = ℕ × (AlgorithmIdentifier × PrivateKinds PublicKeyField)

abbrev pub private_row : PrivateKeyFields → PrivateRow
private_row v = (v.version, (v.private_key_algorithm, private_kinds v.private_key v.public_key))

pub same_parts : (v w : PrivateKeyFields) → v.version ≡ w.version → v.private_key_algorithm ≡ w.private_key_algorithm → v.private_key ≡ w.private_key
    → v.public_key ≡ w.public_key → v ≡ w
same_parts v w versions algorithms keys publics =
    λ i. record {
      version = versions i;
      private_key_algorithm = algorithms i;
      private_key = keys i;
      public_key = publics i;
      of_its_algorithm = is_prop→PathP (λ j. IsTrue (is_private_of (algorithms j).algorithm.0 (keys j) (publics j)))
          (λ j. one_truth (is_private_of (algorithms j).algorithm.0 (keys j) (publics j))) v.of_its_algorithm w.of_its_algorithm i;
    }

pub same_private : (v w : PrivateKeyFields) → private_row v ≡ private_row w → v ≡ w
same_private v w e =
    let versions : v.version ≡ w.version = ap (λ (f : PrivateRow). f.0) e in
    let algorithms : v.private_key_algorithm ≡ w.private_key_algorithm = ap (λ (f : PrivateRow). f.1.0) e in
    let keys : v.private_key ≡ w.private_key =
    sym (private_back v.private_key v.public_key) ∙ ap (λ (f : PrivateRow). private_made f.1.1) e ∙ private_back w.private_key w.public_key in
    let publics : v.public_key ≡ w.public_key =
    sym (behind_back v.private_key v.public_key) ∙ ap (λ (f : PrivateRow). behind_made f.1.1) e ∙ behind_back w.private_key w.public_key in
    same_parts v w versions algorithms keys publics
