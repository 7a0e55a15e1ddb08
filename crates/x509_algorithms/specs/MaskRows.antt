-- A mask generation function as a row of fields (RFC 8017, appendix B.2.1).
use Rattle.std.proofs.Common.{◌≡◌, ℕ, List, [], ◌∷◌, refl, ap}
use Rattle.std.specs.Prelude.{⊤}
use Rattle.asn1_leaves.specs.ObjectIdentifier.{oid_content, subidentifier}
use Rattle.x509_oids.specs.Identifiers as oids
use Rattle.x509_algorithms.specs.declared.hash_algorithm.HashAlgorithm.{HashAlgorithm}
use Rattle.x509_algorithms.specs.declared.mask_gen_algorithm.MaskGenAlgorithm.{MaskGenAlgorithm}
use Rattle.x509_algorithms.specs.declared.mask_gen_algorithm.Mgf1Oid.{Mgf1Oid}

abbrev pub mgf1_content : List ℕ
mgf1_content = 0x2A ∷ 0x86 ∷ 0x48 ∷ 0x86 ∷ 0xF7 ∷ 0x0D ∷ 1 ∷ 1 ∷ 8 ∷ []

pub mgf1_content_is : oid_content oids.id_mgf1 ≡ mgf1_content
unfolding oid_content subidentifier
mgf1_content_is = refl

abbrev pub mask_row : MaskGenAlgorithm → Mgf1Oid × (HashAlgorithm × ⊤)
mask_row v = (record {}, (v.hash_algorithm, tt))

pub one_mask : (v w : MaskGenAlgorithm) → mask_row v ≡ mask_row w → v ≡ w
one_mask v w e = ap (λ (f : Mgf1Oid × (HashAlgorithm × ⊤)). record { hash_algorithm = f.1.0 }) e
