-- paChecksum2: a digest of the request's body, with its algorithm (MS-PKCA, section 2.2.3).
use Rattle.std.specs.Prelude.{Bool, false, ◌%◌, ◌==◌, Option, None, Some}
use Rattle.std.specs.Bool.{nat_eq}
use Rattle.std.specs.Cmp.Lexicographic.{pointwise}
use Rattle.std.specs.List.{find}
use Rattle.std.proofs.Common.{sym, ◌∙◌}
use Rattle.asn1_der.specs.Octets.{context_5_octet, sequence_octet}
use Rattle.asn1_der.specs.Tagged.{tagged_tree}
use Rattle.asn1_der.specs.Tree.{Tree, Writes, der, wrapped}
use Rattle.asn1_der.proofs.Spelling.{IsInjective, wrapped-injective}
use Rattle.asn1_der.proofs.Tagged.{tagged-injective}
use Rattle.picky_asn1.specs.Bytes.{Bytes}
use Rattle.picky_asn1_der.specs.Raw.{Raw}
use Rattle.picky_asn1_der.specs.declared.wrapper.ExplicitContextTag.{ExplicitContextTag}
use Rattle.decision_tables.specs.One.{IsSole}
use Rattle.cms_signed_data.specs.Digests.{digest_by, digest_named}
use Rattle.cms_signed_data.specs.declared.general_form.digest_algorithm.DigestAlgorithm.{DigestAlgorithm}
use Rattle.pkinit_messages.specs.AuthPacks.{authenticator_in}
use Rattle.pkinit_messages.specs.Further.{further_tree}
use Rattle.pkinit_validation.specs.contracts.policies.pa_checksum2.PaChecksum2Tagged.TheImpl as checksum_impl
use Rattle.pkinit_messages.specs.declared.agility.auth_pack.ExtensibleAuthPack.{ExtensibleAuthPack}
use Rattle.pkinit_validation.specs.declared.policies.pa_checksum2.PaChecksum2.{PaChecksum2}

abbrev pub checksum_tree : PaChecksum2 → Tree
checksum_tree = tagged_tree sequence_octet checksum_impl.ghosts.row_tree checksum_impl.ghosts.row_of

checksum-injective : IsInjective checksum_tree
checksum-injective = tagged-injective sequence_octet checksum_impl.ghosts.row_tree checksum_impl.ghosts.row_laws checksum_impl.ghosts.row_of checksum_impl.ghosts.one_row

-- the element is the one DER encoding of this paChecksum2 under [5]
unfoldable pub IsPaChecksum2 : Raw → ExplicitContextTag 5 PaChecksum2 → Type 0
IsPaChecksum2 field checksum = Writes (λ (c : ExplicitContextTag 5 PaChecksum2). wrapped context_5_octet (checksum_tree c.0)) checksum (der (further_tree field))

pub sole_pa_checksum : (field : Raw) → IsSole (IsPaChecksum2 field)
unfolding IsPaChecksum2
sole_pa_checksum field v w p q =
    let same = wrapped-injective context_5_octet checksum_tree checksum-injective v.0 w.0 p.0 q.0 (sym p.1 ∙ q.1) in
    λ i. record { 0 = same i }

-- the field's tag has the number 5
abbrev pub is_fifth : Raw → Bool
is_fifth field = (field.first % 32) == 5

-- the further field [5] of PKAuthenticator, if it is there
abbrev pub second_checksum_in : ExtensibleAuthPack → Option Raw
second_checksum_in pack = find is_fifth (authenticator_in pack).further

-- the checksum is this algorithm's digest of the bytes
abbrev pub is_digest_by : Option DigestAlgorithm → Bytes → Bytes → Bool
is_digest_by None bytes checksum = false
is_digest_by (Some algorithm) bytes checksum = pointwise nat_eq (digest_by algorithm bytes) checksum

-- paChecksum2 is the digest of the bytes by its algorithm, which is one of those of CMS
abbrev pub is_checksum_of : Bytes → PaChecksum2 → Bool
is_checksum_of bytes checksum = is_digest_by (digest_named checksum.algorithm_identifier.0) bytes checksum.checksum.0
