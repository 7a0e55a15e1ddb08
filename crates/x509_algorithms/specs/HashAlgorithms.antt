-- Hashes of RSASSA-PSS signatures (RFC 8017, appendix A.2.3).
use Rattle.std.proofs.Common.{◌≡◌, ℕ, List, [], ◌∷◌, ◌++◌, refl, sym, ap, ◌∙◌}
use Rattle.std.specs.Prelude.{cond, ◌==◌}
use Rattle.asn1_leaves.specs.ObjectIdentifier.{oid_content, subidentifier, IsObjectIdentifier}
use Rattle.x509_oids.specs.Identifiers as oids
use Rattle.x509_algorithms.specs.Arcs.{nist_hashes, octet_behind, or_zero}
use Rattle.x509_algorithms.specs.declared.hash_algorithm.HashAlgorithm.{HashAlgorithm}
use Rattle.x509_algorithms.specs.declared.hash_algorithm.HashAlgorithm.TheVariants as hash
use Rattle.x509_algorithms.specs.declared.hash_algorithm.HashOid.{HashOid}
use Rattle.asn1_der.specs.Octets.{sequence_octet}

-- The arcs of a hash algorithm's object identifier (NIST, Computer Security Objects Register).
abbrev pub hash_arcs : HashAlgorithm → List ℕ
hash_arcs hash.SHA224 = oids.sha224
hash_arcs hash.SHA256 = oids.sha256
hash_arcs hash.SHA384 = oids.sha384
hash_arcs hash.SHA512 = oids.sha512
hash_arcs hash.SHA3_224 = oids.sha3_224
hash_arcs hash.SHA3_256 = oids.sha3_256
hash_arcs hash.SHA3_384 = oids.sha3_384
hash_arcs hash.SHA3_512 = oids.sha3_512

-- the last arc
abbrev pub hash_number : HashAlgorithm → ℕ
hash_number hash.SHA224 = 4
hash_number hash.SHA256 = 1
hash_number hash.SHA384 = 2
hash_number hash.SHA512 = 3
hash_number hash.SHA3_224 = 7
hash_number hash.SHA3_256 = 8
hash_number hash.SHA3_384 = 9
hash_number hash.SHA3_512 = 10

-- the identifier's content octets
abbrev pub hash_content : HashAlgorithm → List ℕ
hash_content h = nist_hashes ++ hash_number h ∷ []

-- how many octets a digest has (FIPS 180-4, section 1; FIPS 202, section 6.1)
abbrev pub hash_len : HashAlgorithm → ℕ
hash_len hash.SHA224 = 28
hash_len hash.SHA256 = 32
hash_len hash.SHA384 = sequence_octet
hash_len hash.SHA512 = 64
hash_len hash.SHA3_224 = 28
hash_len hash.SHA3_256 = 32
hash_len hash.SHA3_384 = sequence_octet
hash_len hash.SHA3_512 = 64

pub hash_content_is : (h : HashAlgorithm) → oid_content (hash_arcs h) ≡ hash_content h
unfolding oid_content subidentifier
hash_content_is hash.SHA224 = refl
hash_content_is hash.SHA256 = refl
hash_content_is hash.SHA384 = refl
hash_content_is hash.SHA512 = refl
hash_content_is hash.SHA3_224 = refl
hash_content_is hash.SHA3_256 = refl
hash_content_is hash.SHA3_384 = refl
hash_content_is hash.SHA3_512 = refl

pub hash_arcs_valid : (h : HashAlgorithm) → IsObjectIdentifier (hash_arcs h)
hash_arcs_valid hash.SHA224 = refl
hash_arcs_valid hash.SHA256 = refl
hash_arcs_valid hash.SHA384 = refl
hash_arcs_valid hash.SHA512 = refl
hash_arcs_valid hash.SHA3_224 = refl
hash_arcs_valid hash.SHA3_256 = refl
hash_arcs_valid hash.SHA3_384 = refl
hash_arcs_valid hash.SHA3_512 = refl

abbrev hash_of : ℕ → HashAlgorithm
hash_of n =
    cond (n == 4) hash.SHA224 (cond (n == 1) hash.SHA256 (cond (n == 2) hash.SHA384 (cond (n == 3) hash.SHA512
    (cond (n == 7) hash.SHA3_224 (cond (n == 8) hash.SHA3_256 (cond (n == 9) hash.SHA3_384 hash.SHA3_512))))))

hash_back : (h : HashAlgorithm) → hash_of (or_zero (octet_behind nist_hashes (hash_content h))) ≡ h
hash_back hash.SHA224 = refl
hash_back hash.SHA256 = refl
hash_back hash.SHA384 = refl
hash_back hash.SHA512 = refl
hash_back hash.SHA3_224 = refl
hash_back hash.SHA3_256 = refl
hash_back hash.SHA3_384 = refl
hash_back hash.SHA3_512 = refl

pub hash_content_one : (v w : HashAlgorithm) → hash_content v ≡ hash_content w → v ≡ w
hash_content_one v w e = sym (hash_back v) ∙ ap (λ (content : List ℕ). hash_of (or_zero (octet_behind nist_hashes content))) e ∙ hash_back w

pub one_hash_oid : (v w : HashOid) → hash_content v.0 ≡ hash_content w.0 → v ≡ w
one_hash_oid v w e = let same = hash_content_one v.0 w.0 e in λ i. record { 0 = same i }
