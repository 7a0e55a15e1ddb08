-- A private key with its algorithm is distinguished by its fields, of which the version agrees.
use Rattle.std.proofs.Common.{◌≡◌}
use Rattle.std.specs.Prelude.{◌==◌, IsTrue}
use mathlib.Core.HLevel.{is_prop→PathP}
use Rattle.x509_spelling.specs.ChosenLaws.{one_truth}
use Rattle.x509_keys.specs.PrivateKeys.{version_with}
use Rattle.x509_keys.specs.declared.private_key_info.PrivateKeyInfo.{PrivateKeyInfo}

pub same_info : (v w : PrivateKeyInfo) → v.fields ≡ w.fields → v ≡ w
same_info v w fields =
    λ i. record {
      fields = fields i;
      of_its_version = is_prop→PathP (λ j. IsTrue ((fields j).version == version_with (fields j).public_key.0))
          (λ j. one_truth ((fields j).version == version_with (fields j).public_key.0)) v.of_its_version w.of_its_version i;
    }
