-- What holds of signed data of the general form: it is one.
use Rattle.std.proofs.Common.{◌≡◌, Option, Some, sym, ap, ◌∙◌}
use Rattle.asn1_der.specs.Octets.{sequence_octet}
use Rattle.asn1_der.proofs.Tagged.{tagged-injective}
use Rattle.picky_asn1.specs.Bytes.{Bytes}
use Rattle.decision_tables.specs.One.{IsSole}
use Rattle.cms_signed_data.specs.declared.general_form.digest_algorithm.DigestAlgorithm.{DigestAlgorithm}
use Rattle.cms_signed_data.specs.GeneralContents.{IsGeneralContent, IsGeneralInfo}
use Rattle.cms_signed_data.specs.GeneralForm.{held_in}
use Rattle.cms_signed_data.specs.contracts.general_form.general_info.GeneralInfoTagged.TheImpl as info_impl

pub sole_general_info : (bytes : Bytes) → IsSole (IsGeneralInfo bytes)
unfolding IsGeneralInfo
sole_general_info bytes v w p q =
    tagged-injective sequence_octet info_impl.ghosts.row_tree info_impl.ghosts.row_laws info_impl.ghosts.row_of info_impl.ghosts.one_row v w p.0 q.0 (sym p.1 ∙ q.1)

same_held : (a b : DigestAlgorithm × Bytes) → ◌≡◌ {A = Option (DigestAlgorithm × Bytes)} (Some a) (Some b) → a ≡ b
same_held a b e = cc (e)

-- bytes are one signed data
pub one_general : (bytes : Bytes) → IsSole (IsGeneralContent bytes)
one_general bytes v w p q =
    let infos : v.info ≡ w.info = sole_general_info bytes v.info w.info p.spelled q.spelled in
    let held = same_held (v.algorithm, v.digest) (w.algorithm, w.digest) (sym p.held ∙ ap held_in infos ∙ q.held) in
    λ i. record { info = infos i; algorithm = (held i).0; digest = (held i).1 }
