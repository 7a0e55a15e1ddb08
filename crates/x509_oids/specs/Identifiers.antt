-- The object identifiers that X.509 values and their neighbours are distinguished by, each with its dotted text.
use Rattle.std.specs.Prelude.{◌≡◌, ℕ, List, [], ◌∷◌, codes, Result, IfOk, refl}
use Rattle.std.specs.Fmt.{digits}
use Rattle.asn1_leaves.specs.ObjectIdentifier.{dotted_text}

-- what is answered is the identifier with these arcs, whose dotted text this is
abbrev pub IsNamed : List ℕ → List ℕ → {E : Type 0} → Result (List ℕ) E → Type 0
IsNamed arcs text result = (dotted_text arcs ≡ text) × IfOk result (λ oid. oid ≡ arcs)

abbrev pub rsa_encryption : List ℕ
rsa_encryption = 1 ∷ 2 ∷ 840 ∷ 113549 ∷ 1 ∷ 1 ∷ 1 ∷ []

pub rsa_encryption_text : dotted_text rsa_encryption ≡ codes "1.2.840.113549.1.1.1"
unfolding dotted_text digits
rsa_encryption_text = refl

abbrev pub md5_with_rsa_encrypthion : List ℕ
md5_with_rsa_encrypthion = 1 ∷ 2 ∷ 840 ∷ 113549 ∷ 1 ∷ 1 ∷ 4 ∷ []

pub md5_with_rsa_encrypthion_text : dotted_text md5_with_rsa_encrypthion ≡ codes "1.2.840.113549.1.1.4"
unfolding dotted_text digits
md5_with_rsa_encrypthion_text = refl

abbrev pub sha1_with_rsa_encryption : List ℕ
sha1_with_rsa_encryption = 1 ∷ 2 ∷ 840 ∷ 113549 ∷ 1 ∷ 1 ∷ 5 ∷ []

pub sha1_with_rsa_encryption_text : dotted_text sha1_with_rsa_encryption ≡ codes "1.2.840.113549.1.1.5"
unfolding dotted_text digits
sha1_with_rsa_encryption_text = refl

abbrev pub id_mgf1 : List ℕ
id_mgf1 = 1 ∷ 2 ∷ 840 ∷ 113549 ∷ 1 ∷ 1 ∷ 8 ∷ []

pub id_mgf1_text : dotted_text id_mgf1 ≡ codes "1.2.840.113549.1.1.8"
unfolding dotted_text digits
id_mgf1_text = refl

abbrev pub rsassa_pss : List ℕ
rsassa_pss = 1 ∷ 2 ∷ 840 ∷ 113549 ∷ 1 ∷ 1 ∷ 10 ∷ []

pub rsassa_pss_text : dotted_text rsassa_pss ≡ codes "1.2.840.113549.1.1.10"
unfolding dotted_text digits
rsassa_pss_text = refl

abbrev pub sha256_with_rsa_encryption : List ℕ
sha256_with_rsa_encryption = 1 ∷ 2 ∷ 840 ∷ 113549 ∷ 1 ∷ 1 ∷ 11 ∷ []

pub sha256_with_rsa_encryption_text : dotted_text sha256_with_rsa_encryption ≡ codes "1.2.840.113549.1.1.11"
unfolding dotted_text digits
sha256_with_rsa_encryption_text = refl

abbrev pub sha384_with_rsa_encryption : List ℕ
sha384_with_rsa_encryption = 1 ∷ 2 ∷ 840 ∷ 113549 ∷ 1 ∷ 1 ∷ 12 ∷ []

pub sha384_with_rsa_encryption_text : dotted_text sha384_with_rsa_encryption ≡ codes "1.2.840.113549.1.1.12"
unfolding dotted_text digits
sha384_with_rsa_encryption_text = refl

abbrev pub sha512_with_rsa_encryption : List ℕ
sha512_with_rsa_encryption = 1 ∷ 2 ∷ 840 ∷ 113549 ∷ 1 ∷ 1 ∷ 13 ∷ []

pub sha512_with_rsa_encryption_text : dotted_text sha512_with_rsa_encryption ≡ codes "1.2.840.113549.1.1.13"
unfolding dotted_text digits
sha512_with_rsa_encryption_text = refl

abbrev pub sha224_with_rsa_encryption : List ℕ
sha224_with_rsa_encryption = 1 ∷ 2 ∷ 840 ∷ 113549 ∷ 1 ∷ 1 ∷ 14 ∷ []

pub sha224_with_rsa_encryption_text : dotted_text sha224_with_rsa_encryption ≡ codes "1.2.840.113549.1.1.14"
unfolding dotted_text digits
sha224_with_rsa_encryption_text = refl

abbrev pub md5 : List ℕ
md5 = 1 ∷ 2 ∷ 840 ∷ 113549 ∷ 2 ∷ 5 ∷ []

pub md5_text : dotted_text md5 ≡ codes "1.2.840.113549.2.5"
unfolding dotted_text digits
md5_text = refl

abbrev pub sha1 : List ℕ
sha1 = 1 ∷ 3 ∷ 14 ∷ 3 ∷ 2 ∷ 26 ∷ []

pub sha1_text : dotted_text sha1 ≡ codes "1.3.14.3.2.26"
unfolding dotted_text digits
sha1_text = refl

abbrev pub sha256 : List ℕ
sha256 = 2 ∷ 16 ∷ 840 ∷ 1 ∷ 101 ∷ 3 ∷ 4 ∷ 2 ∷ 1 ∷ []

pub sha256_text : dotted_text sha256 ≡ codes "2.16.840.1.101.3.4.2.1"
unfolding dotted_text digits
sha256_text = refl

abbrev pub sha384 : List ℕ
sha384 = 2 ∷ 16 ∷ 840 ∷ 1 ∷ 101 ∷ 3 ∷ 4 ∷ 2 ∷ 2 ∷ []

pub sha384_text : dotted_text sha384 ≡ codes "2.16.840.1.101.3.4.2.2"
unfolding dotted_text digits
sha384_text = refl

abbrev pub sha512 : List ℕ
sha512 = 2 ∷ 16 ∷ 840 ∷ 1 ∷ 101 ∷ 3 ∷ 4 ∷ 2 ∷ 3 ∷ []

pub sha512_text : dotted_text sha512 ≡ codes "2.16.840.1.101.3.4.2.3"
unfolding dotted_text digits
sha512_text = refl

abbrev pub sha224 : List ℕ
sha224 = 2 ∷ 16 ∷ 840 ∷ 1 ∷ 101 ∷ 3 ∷ 4 ∷ 2 ∷ 4 ∷ []

pub sha224_text : dotted_text sha224 ≡ codes "2.16.840.1.101.3.4.2.4"
unfolding dotted_text digits
sha224_text = refl

abbrev pub sha512_224 : List ℕ
sha512_224 = 2 ∷ 16 ∷ 840 ∷ 1 ∷ 101 ∷ 3 ∷ 4 ∷ 2 ∷ 5 ∷ []

pub sha512_224_text : dotted_text sha512_224 ≡ codes "2.16.840.1.101.3.4.2.5"
unfolding dotted_text digits
sha512_224_text = refl

abbrev pub sha512_256 : List ℕ
sha512_256 = 2 ∷ 16 ∷ 840 ∷ 1 ∷ 101 ∷ 3 ∷ 4 ∷ 2 ∷ 6 ∷ []

pub sha512_256_text : dotted_text sha512_256 ≡ codes "2.16.840.1.101.3.4.2.6"
unfolding dotted_text digits
sha512_256_text = refl

abbrev pub sha3_224 : List ℕ
sha3_224 = 2 ∷ 16 ∷ 840 ∷ 1 ∷ 101 ∷ 3 ∷ 4 ∷ 2 ∷ 7 ∷ []

pub sha3_224_text : dotted_text sha3_224 ≡ codes "2.16.840.1.101.3.4.2.7"
unfolding dotted_text digits
sha3_224_text = refl

abbrev pub sha3_256 : List ℕ
sha3_256 = 2 ∷ 16 ∷ 840 ∷ 1 ∷ 101 ∷ 3 ∷ 4 ∷ 2 ∷ 8 ∷ []

pub sha3_256_text : dotted_text sha3_256 ≡ codes "2.16.840.1.101.3.4.2.8"
unfolding dotted_text digits
sha3_256_text = refl

abbrev pub sha3_384 : List ℕ
sha3_384 = 2 ∷ 16 ∷ 840 ∷ 1 ∷ 101 ∷ 3 ∷ 4 ∷ 2 ∷ 9 ∷ []

pub sha3_384_text : dotted_text sha3_384 ≡ codes "2.16.840.1.101.3.4.2.9"
unfolding dotted_text digits
sha3_384_text = refl

abbrev pub sha3_512 : List ℕ
sha3_512 = 2 ∷ 16 ∷ 840 ∷ 1 ∷ 101 ∷ 3 ∷ 4 ∷ 2 ∷ 10 ∷ []

pub sha3_512_text : dotted_text sha3_512 ≡ codes "2.16.840.1.101.3.4.2.10"
unfolding dotted_text digits
sha3_512_text = refl

abbrev pub shake128 : List ℕ
shake128 = 2 ∷ 16 ∷ 840 ∷ 1 ∷ 101 ∷ 3 ∷ 4 ∷ 2 ∷ 11 ∷ []

pub shake128_text : dotted_text shake128 ≡ codes "2.16.840.1.101.3.4.2.11"
unfolding dotted_text digits
shake128_text = refl

abbrev pub shake256 : List ℕ
shake256 = 2 ∷ 16 ∷ 840 ∷ 1 ∷ 101 ∷ 3 ∷ 4 ∷ 2 ∷ 12 ∷ []

pub shake256_text : dotted_text shake256 ≡ codes "2.16.840.1.101.3.4.2.12"
unfolding dotted_text digits
shake256_text = refl

abbrev pub ecdsa_with_sha3_224 : List ℕ
ecdsa_with_sha3_224 = 2 ∷ 16 ∷ 840 ∷ 1 ∷ 101 ∷ 3 ∷ 4 ∷ 3 ∷ 9 ∷ []

pub ecdsa_with_sha3_224_text : dotted_text ecdsa_with_sha3_224 ≡ codes "2.16.840.1.101.3.4.3.9"
unfolding dotted_text digits
ecdsa_with_sha3_224_text = refl

abbrev pub ecdsa_with_sha3_256 : List ℕ
ecdsa_with_sha3_256 = 2 ∷ 16 ∷ 840 ∷ 1 ∷ 101 ∷ 3 ∷ 4 ∷ 3 ∷ 10 ∷ []

pub ecdsa_with_sha3_256_text : dotted_text ecdsa_with_sha3_256 ≡ codes "2.16.840.1.101.3.4.3.10"
unfolding dotted_text digits
ecdsa_with_sha3_256_text = refl

abbrev pub ecdsa_with_sha3_384 : List ℕ
ecdsa_with_sha3_384 = 2 ∷ 16 ∷ 840 ∷ 1 ∷ 101 ∷ 3 ∷ 4 ∷ 3 ∷ 11 ∷ []

pub ecdsa_with_sha3_384_text : dotted_text ecdsa_with_sha3_384 ≡ codes "2.16.840.1.101.3.4.3.11"
unfolding dotted_text digits
ecdsa_with_sha3_384_text = refl

abbrev pub ecdsa_with_sha3_512 : List ℕ
ecdsa_with_sha3_512 = 2 ∷ 16 ∷ 840 ∷ 1 ∷ 101 ∷ 3 ∷ 4 ∷ 3 ∷ 12 ∷ []

pub ecdsa_with_sha3_512_text : dotted_text ecdsa_with_sha3_512 ≡ codes "2.16.840.1.101.3.4.3.12"
unfolding dotted_text digits
ecdsa_with_sha3_512_text = refl

abbrev pub sha3_224_with_rsa_encryption : List ℕ
sha3_224_with_rsa_encryption = 2 ∷ 16 ∷ 840 ∷ 1 ∷ 101 ∷ 3 ∷ 4 ∷ 3 ∷ 13 ∷ []

pub sha3_224_with_rsa_encryption_text : dotted_text sha3_224_with_rsa_encryption ≡ codes "2.16.840.1.101.3.4.3.13"
unfolding dotted_text digits
sha3_224_with_rsa_encryption_text = refl

abbrev pub sha3_256_with_rsa_encryption : List ℕ
sha3_256_with_rsa_encryption = 2 ∷ 16 ∷ 840 ∷ 1 ∷ 101 ∷ 3 ∷ 4 ∷ 3 ∷ 14 ∷ []

pub sha3_256_with_rsa_encryption_text : dotted_text sha3_256_with_rsa_encryption ≡ codes "2.16.840.1.101.3.4.3.14"
unfolding dotted_text digits
sha3_256_with_rsa_encryption_text = refl

abbrev pub sha3_384_with_rsa_encryption : List ℕ
sha3_384_with_rsa_encryption = 2 ∷ 16 ∷ 840 ∷ 1 ∷ 101 ∷ 3 ∷ 4 ∷ 3 ∷ 15 ∷ []

pub sha3_384_with_rsa_encryption_text : dotted_text sha3_384_with_rsa_encryption ≡ codes "2.16.840.1.101.3.4.3.15"
unfolding dotted_text digits
sha3_384_with_rsa_encryption_text = refl

abbrev pub sha3_512_with_rsa_encryption : List ℕ
sha3_512_with_rsa_encryption = 2 ∷ 16 ∷ 840 ∷ 1 ∷ 101 ∷ 3 ∷ 4 ∷ 3 ∷ 16 ∷ []

pub sha3_512_with_rsa_encryption_text : dotted_text sha3_512_with_rsa_encryption ≡ codes "2.16.840.1.101.3.4.3.16"
unfolding dotted_text digits
sha3_512_with_rsa_encryption_text = refl

abbrev pub ml_dsa_44 : List ℕ
ml_dsa_44 = 2 ∷ 16 ∷ 840 ∷ 1 ∷ 101 ∷ 3 ∷ 4 ∷ 3 ∷ 17 ∷ []

pub ml_dsa_44_text : dotted_text ml_dsa_44 ≡ codes "2.16.840.1.101.3.4.3.17"
unfolding dotted_text digits
ml_dsa_44_text = refl

abbrev pub ml_dsa_65 : List ℕ
ml_dsa_65 = 2 ∷ 16 ∷ 840 ∷ 1 ∷ 101 ∷ 3 ∷ 4 ∷ 3 ∷ 18 ∷ []

pub ml_dsa_65_text : dotted_text ml_dsa_65 ≡ codes "2.16.840.1.101.3.4.3.18"
unfolding dotted_text digits
ml_dsa_65_text = refl

abbrev pub ml_dsa_87 : List ℕ
ml_dsa_87 = 2 ∷ 16 ∷ 840 ∷ 1 ∷ 101 ∷ 3 ∷ 4 ∷ 3 ∷ 19 ∷ []

pub ml_dsa_87_text : dotted_text ml_dsa_87 ≡ codes "2.16.840.1.101.3.4.3.19"
unfolding dotted_text digits
ml_dsa_87_text = refl

abbrev pub aes128_ecb : List ℕ
aes128_ecb = 2 ∷ 16 ∷ 840 ∷ 1 ∷ 101 ∷ 3 ∷ 4 ∷ 1 ∷ 1 ∷ []

pub aes128_ecb_text : dotted_text aes128_ecb ≡ codes "2.16.840.1.101.3.4.1.1"
unfolding dotted_text digits
aes128_ecb_text = refl

abbrev pub aes128_cbc : List ℕ
aes128_cbc = 2 ∷ 16 ∷ 840 ∷ 1 ∷ 101 ∷ 3 ∷ 4 ∷ 1 ∷ 2 ∷ []

pub aes128_cbc_text : dotted_text aes128_cbc ≡ codes "2.16.840.1.101.3.4.1.2"
unfolding dotted_text digits
aes128_cbc_text = refl

abbrev pub aes128_ofb : List ℕ
aes128_ofb = 2 ∷ 16 ∷ 840 ∷ 1 ∷ 101 ∷ 3 ∷ 4 ∷ 1 ∷ 3 ∷ []

pub aes128_ofb_text : dotted_text aes128_ofb ≡ codes "2.16.840.1.101.3.4.1.3"
unfolding dotted_text digits
aes128_ofb_text = refl

abbrev pub aes128_cfb : List ℕ
aes128_cfb = 2 ∷ 16 ∷ 840 ∷ 1 ∷ 101 ∷ 3 ∷ 4 ∷ 1 ∷ 4 ∷ []

pub aes128_cfb_text : dotted_text aes128_cfb ≡ codes "2.16.840.1.101.3.4.1.4"
unfolding dotted_text digits
aes128_cfb_text = refl

abbrev pub aes128_wrap : List ℕ
aes128_wrap = 2 ∷ 16 ∷ 840 ∷ 1 ∷ 101 ∷ 3 ∷ 4 ∷ 1 ∷ 5 ∷ []

pub aes128_wrap_text : dotted_text aes128_wrap ≡ codes "2.16.840.1.101.3.4.1.5"
unfolding dotted_text digits
aes128_wrap_text = refl

abbrev pub aes128_gcm : List ℕ
aes128_gcm = 2 ∷ 16 ∷ 840 ∷ 1 ∷ 101 ∷ 3 ∷ 4 ∷ 1 ∷ 6 ∷ []

pub aes128_gcm_text : dotted_text aes128_gcm ≡ codes "2.16.840.1.101.3.4.1.6"
unfolding dotted_text digits
aes128_gcm_text = refl

abbrev pub aes128_ccm : List ℕ
aes128_ccm = 2 ∷ 16 ∷ 840 ∷ 1 ∷ 101 ∷ 3 ∷ 4 ∷ 1 ∷ 7 ∷ []

pub aes128_ccm_text : dotted_text aes128_ccm ≡ codes "2.16.840.1.101.3.4.1.7"
unfolding dotted_text digits
aes128_ccm_text = refl

abbrev pub aes128_wrap_pad : List ℕ
aes128_wrap_pad = 2 ∷ 16 ∷ 840 ∷ 1 ∷ 101 ∷ 3 ∷ 4 ∷ 1 ∷ 8 ∷ []

pub aes128_wrap_pad_text : dotted_text aes128_wrap_pad ≡ codes "2.16.840.1.101.3.4.1.8"
unfolding dotted_text digits
aes128_wrap_pad_text = refl

abbrev pub aes192_ecb : List ℕ
aes192_ecb = 2 ∷ 16 ∷ 840 ∷ 1 ∷ 101 ∷ 3 ∷ 4 ∷ 1 ∷ 21 ∷ []

pub aes192_ecb_text : dotted_text aes192_ecb ≡ codes "2.16.840.1.101.3.4.1.21"
unfolding dotted_text digits
aes192_ecb_text = refl

abbrev pub aes192_cbc : List ℕ
aes192_cbc = 2 ∷ 16 ∷ 840 ∷ 1 ∷ 101 ∷ 3 ∷ 4 ∷ 1 ∷ 22 ∷ []

pub aes192_cbc_text : dotted_text aes192_cbc ≡ codes "2.16.840.1.101.3.4.1.22"
unfolding dotted_text digits
aes192_cbc_text = refl

abbrev pub aes192_ofb : List ℕ
aes192_ofb = 2 ∷ 16 ∷ 840 ∷ 1 ∷ 101 ∷ 3 ∷ 4 ∷ 1 ∷ 23 ∷ []

pub aes192_ofb_text : dotted_text aes192_ofb ≡ codes "2.16.840.1.101.3.4.1.23"
unfolding dotted_text digits
aes192_ofb_text = refl

abbrev pub aes192_cfb : List ℕ
aes192_cfb = 2 ∷ 16 ∷ 840 ∷ 1 ∷ 101 ∷ 3 ∷ 4 ∷ 1 ∷ 24 ∷ []

pub aes192_cfb_text : dotted_text aes192_cfb ≡ codes "2.16.840.1.101.3.4.1.24"
unfolding dotted_text digits
aes192_cfb_text = refl

abbrev pub aes192_wrap : List ℕ
aes192_wrap = 2 ∷ 16 ∷ 840 ∷ 1 ∷ 101 ∷ 3 ∷ 4 ∷ 1 ∷ 25 ∷ []

pub aes192_wrap_text : dotted_text aes192_wrap ≡ codes "2.16.840.1.101.3.4.1.25"
unfolding dotted_text digits
aes192_wrap_text = refl

abbrev pub aes192_gcm : List ℕ
aes192_gcm = 2 ∷ 16 ∷ 840 ∷ 1 ∷ 101 ∷ 3 ∷ 4 ∷ 1 ∷ 26 ∷ []

pub aes192_gcm_text : dotted_text aes192_gcm ≡ codes "2.16.840.1.101.3.4.1.26"
unfolding dotted_text digits
aes192_gcm_text = refl

abbrev pub aes192_ccm : List ℕ
aes192_ccm = 2 ∷ 16 ∷ 840 ∷ 1 ∷ 101 ∷ 3 ∷ 4 ∷ 1 ∷ 27 ∷ []

pub aes192_ccm_text : dotted_text aes192_ccm ≡ codes "2.16.840.1.101.3.4.1.27"
unfolding dotted_text digits
aes192_ccm_text = refl

abbrev pub aes192_wrap_pad : List ℕ
aes192_wrap_pad = 2 ∷ 16 ∷ 840 ∷ 1 ∷ 101 ∷ 3 ∷ 4 ∷ 1 ∷ 28 ∷ []

pub aes192_wrap_pad_text : dotted_text aes192_wrap_pad ≡ codes "2.16.840.1.101.3.4.1.28"
unfolding dotted_text digits
aes192_wrap_pad_text = refl

abbrev pub aes256_ecb : List ℕ
aes256_ecb = 2 ∷ 16 ∷ 840 ∷ 1 ∷ 101 ∷ 3 ∷ 4 ∷ 1 ∷ 41 ∷ []

pub aes256_ecb_text : dotted_text aes256_ecb ≡ codes "2.16.840.1.101.3.4.1.41"
unfolding dotted_text digits
aes256_ecb_text = refl

abbrev pub aes256_cbc : List ℕ
aes256_cbc = 2 ∷ 16 ∷ 840 ∷ 1 ∷ 101 ∷ 3 ∷ 4 ∷ 1 ∷ 42 ∷ []

pub aes256_cbc_text : dotted_text aes256_cbc ≡ codes "2.16.840.1.101.3.4.1.42"
unfolding dotted_text digits
aes256_cbc_text = refl

abbrev pub aes256_ofb : List ℕ
aes256_ofb = 2 ∷ 16 ∷ 840 ∷ 1 ∷ 101 ∷ 3 ∷ 4 ∷ 1 ∷ 43 ∷ []

pub aes256_ofb_text : dotted_text aes256_ofb ≡ codes "2.16.840.1.101.3.4.1.43"
unfolding dotted_text digits
aes256_ofb_text = refl

abbrev pub aes256_cfb : List ℕ
aes256_cfb = 2 ∷ 16 ∷ 840 ∷ 1 ∷ 101 ∷ 3 ∷ 4 ∷ 1 ∷ 44 ∷ []

pub aes256_cfb_text : dotted_text aes256_cfb ≡ codes "2.16.840.1.101.3.4.1.44"
unfolding dotted_text digits
aes256_cfb_text = refl

abbrev pub aes256_wrap : List ℕ
aes256_wrap = 2 ∷ 16 ∷ 840 ∷ 1 ∷ 101 ∷ 3 ∷ 4 ∷ 1 ∷ 45 ∷ []

pub aes256_wrap_text : dotted_text aes256_wrap ≡ codes "2.16.840.1.101.3.4.1.45"
unfolding dotted_text digits
aes256_wrap_text = refl

abbrev pub aes256_gcm : List ℕ
aes256_gcm = 2 ∷ 16 ∷ 840 ∷ 1 ∷ 101 ∷ 3 ∷ 4 ∷ 1 ∷ 46 ∷ []

pub aes256_gcm_text : dotted_text aes256_gcm ≡ codes "2.16.840.1.101.3.4.1.46"
unfolding dotted_text digits
aes256_gcm_text = refl

abbrev pub aes256_ccm : List ℕ
aes256_ccm = 2 ∷ 16 ∷ 840 ∷ 1 ∷ 101 ∷ 3 ∷ 4 ∷ 1 ∷ 47 ∷ []

pub aes256_ccm_text : dotted_text aes256_ccm ≡ codes "2.16.840.1.101.3.4.1.47"
unfolding dotted_text digits
aes256_ccm_text = refl

abbrev pub aes256_wrap_pad : List ℕ
aes256_wrap_pad = 2 ∷ 16 ∷ 840 ∷ 1 ∷ 101 ∷ 3 ∷ 4 ∷ 1 ∷ 48 ∷ []

pub aes256_wrap_pad_text : dotted_text aes256_wrap_pad ≡ codes "2.16.840.1.101.3.4.1.48"
unfolding dotted_text digits
aes256_wrap_pad_text = refl

abbrev pub dsa_with_sha1 : List ℕ
dsa_with_sha1 = 1 ∷ 2 ∷ 840 ∷ 10040 ∷ 4 ∷ 3 ∷ []

pub dsa_with_sha1_text : dotted_text dsa_with_sha1 ≡ codes "1.2.840.10040.4.3"
unfolding dotted_text digits
dsa_with_sha1_text = refl

abbrev pub ec_public_key : List ℕ
ec_public_key = 1 ∷ 2 ∷ 840 ∷ 10045 ∷ 2 ∷ 1 ∷ []

pub ec_public_key_text : dotted_text ec_public_key ≡ codes "1.2.840.10045.2.1"
unfolding dotted_text digits
ec_public_key_text = refl

abbrev pub ecdsa_with_sha256 : List ℕ
ecdsa_with_sha256 = 1 ∷ 2 ∷ 840 ∷ 10045 ∷ 4 ∷ 3 ∷ 2 ∷ []

pub ecdsa_with_sha256_text : dotted_text ecdsa_with_sha256 ≡ codes "1.2.840.10045.4.3.2"
unfolding dotted_text digits
ecdsa_with_sha256_text = refl

abbrev pub ecdsa_with_sha384 : List ℕ
ecdsa_with_sha384 = 1 ∷ 2 ∷ 840 ∷ 10045 ∷ 4 ∷ 3 ∷ 3 ∷ []

pub ecdsa_with_sha384_text : dotted_text ecdsa_with_sha384 ≡ codes "1.2.840.10045.4.3.3"
unfolding dotted_text digits
ecdsa_with_sha384_text = refl

abbrev pub ecdsa_with_sha512 : List ℕ
ecdsa_with_sha512 = 1 ∷ 2 ∷ 840 ∷ 10045 ∷ 4 ∷ 3 ∷ 4 ∷ []

pub ecdsa_with_sha512_text : dotted_text ecdsa_with_sha512 ≡ codes "1.2.840.10045.4.3.4"
unfolding dotted_text digits
ecdsa_with_sha512_text = refl

abbrev pub secp256r1 : List ℕ
secp256r1 = 1 ∷ 2 ∷ 840 ∷ 10045 ∷ 3 ∷ 1 ∷ 7 ∷ []

pub secp256r1_text : dotted_text secp256r1 ≡ codes "1.2.840.10045.3.1.7"
unfolding dotted_text digits
secp256r1_text = refl

abbrev pub secp384r1 : List ℕ
secp384r1 = 1 ∷ 3 ∷ 132 ∷ 0 ∷ 34 ∷ []

pub secp384r1_text : dotted_text secp384r1 ≡ codes "1.3.132.0.34"
unfolding dotted_text digits
secp384r1_text = refl

abbrev pub secp521r1 : List ℕ
secp521r1 = 1 ∷ 3 ∷ 132 ∷ 0 ∷ 35 ∷ []

pub secp521r1_text : dotted_text secp521r1 ≡ codes "1.3.132.0.35"
unfolding dotted_text digits
secp521r1_text = refl

abbrev pub x25519 : List ℕ
x25519 = 1 ∷ 3 ∷ 101 ∷ 110 ∷ []

pub x25519_text : dotted_text x25519 ≡ codes "1.3.101.110"
unfolding dotted_text digits
x25519_text = refl

abbrev pub x448 : List ℕ
x448 = 1 ∷ 3 ∷ 101 ∷ 111 ∷ []

pub x448_text : dotted_text x448 ≡ codes "1.3.101.111"
unfolding dotted_text digits
x448_text = refl

abbrev pub ed25519 : List ℕ
ed25519 = 1 ∷ 3 ∷ 101 ∷ 112 ∷ []

pub ed25519_text : dotted_text ed25519 ≡ codes "1.3.101.112"
unfolding dotted_text digits
ed25519_text = refl

abbrev pub ed448 : List ℕ
ed448 = 1 ∷ 3 ∷ 101 ∷ 113 ∷ []

pub ed448_text : dotted_text ed448 ≡ codes "1.3.101.113"
unfolding dotted_text digits
ed448_text = refl

abbrev pub at_common_name : List ℕ
at_common_name = 2 ∷ 5 ∷ 4 ∷ 3 ∷ []

pub at_common_name_text : dotted_text at_common_name ≡ codes "2.5.4.3"
unfolding dotted_text digits
at_common_name_text = refl

abbrev pub at_surname : List ℕ
at_surname = 2 ∷ 5 ∷ 4 ∷ 4 ∷ []

pub at_surname_text : dotted_text at_surname ≡ codes "2.5.4.4"
unfolding dotted_text digits
at_surname_text = refl

abbrev pub at_serial_number : List ℕ
at_serial_number = 2 ∷ 5 ∷ 4 ∷ 5 ∷ []

pub at_serial_number_text : dotted_text at_serial_number ≡ codes "2.5.4.5"
unfolding dotted_text digits
at_serial_number_text = refl

abbrev pub at_country_name : List ℕ
at_country_name = 2 ∷ 5 ∷ 4 ∷ 6 ∷ []

pub at_country_name_text : dotted_text at_country_name ≡ codes "2.5.4.6"
unfolding dotted_text digits
at_country_name_text = refl

abbrev pub at_locality_name : List ℕ
at_locality_name = 2 ∷ 5 ∷ 4 ∷ 7 ∷ []

pub at_locality_name_text : dotted_text at_locality_name ≡ codes "2.5.4.7"
unfolding dotted_text digits
at_locality_name_text = refl

abbrev pub at_state_or_province_name : List ℕ
at_state_or_province_name = 2 ∷ 5 ∷ 4 ∷ 8 ∷ []

pub at_state_or_province_name_text : dotted_text at_state_or_province_name ≡ codes "2.5.4.8"
unfolding dotted_text digits
at_state_or_province_name_text = refl

abbrev pub at_street_name : List ℕ
at_street_name = 2 ∷ 5 ∷ 4 ∷ 9 ∷ []

pub at_street_name_text : dotted_text at_street_name ≡ codes "2.5.4.9"
unfolding dotted_text digits
at_street_name_text = refl

abbrev pub at_organisation_name : List ℕ
at_organisation_name = 2 ∷ 5 ∷ 4 ∷ 10 ∷ []

pub at_organisation_name_text : dotted_text at_organisation_name ≡ codes "2.5.4.10"
unfolding dotted_text digits
at_organisation_name_text = refl

abbrev pub at_organisational_unit_name : List ℕ
at_organisational_unit_name = 2 ∷ 5 ∷ 4 ∷ 11 ∷ []

pub at_organisational_unit_name_text : dotted_text at_organisational_unit_name ≡ codes "2.5.4.11"
unfolding dotted_text digits
at_organisational_unit_name_text = refl

abbrev pub at_phone : List ℕ
at_phone = 2 ∷ 5 ∷ 4 ∷ 20 ∷ []

pub at_phone_text : dotted_text at_phone ≡ codes "2.5.4.20"
unfolding dotted_text digits
at_phone_text = refl

abbrev pub at_givenname : List ℕ
at_givenname = 2 ∷ 5 ∷ 4 ∷ 42 ∷ []

pub at_givenname_text : dotted_text at_givenname ≡ codes "2.5.4.42"
unfolding dotted_text digits
at_givenname_text = refl

abbrev pub email_address : List ℕ
email_address = 1 ∷ 2 ∷ 840 ∷ 113549 ∷ 1 ∷ 9 ∷ 1 ∷ []

pub email_address_text : dotted_text email_address ≡ codes "1.2.840.113549.1.9.1"
unfolding dotted_text digits
email_address_text = refl

abbrev pub content_type : List ℕ
content_type = 1 ∷ 2 ∷ 840 ∷ 113549 ∷ 1 ∷ 9 ∷ 3 ∷ []

pub content_type_text : dotted_text content_type ≡ codes "1.2.840.113549.1.9.3"
unfolding dotted_text digits
content_type_text = refl

abbrev pub message_digest : List ℕ
message_digest = 1 ∷ 2 ∷ 840 ∷ 113549 ∷ 1 ∷ 9 ∷ 4 ∷ []

pub message_digest_text : dotted_text message_digest ≡ codes "1.2.840.113549.1.9.4"
unfolding dotted_text digits
message_digest_text = refl

abbrev pub signing_time : List ℕ
signing_time = 1 ∷ 2 ∷ 840 ∷ 113549 ∷ 1 ∷ 9 ∷ 5 ∷ []

pub signing_time_text : dotted_text signing_time ≡ codes "1.2.840.113549.1.9.5"
unfolding dotted_text digits
signing_time_text = refl

abbrev pub extension_req : List ℕ
extension_req = 1 ∷ 2 ∷ 840 ∷ 113549 ∷ 1 ∷ 9 ∷ 14 ∷ []

pub extension_req_text : dotted_text extension_req ≡ codes "1.2.840.113549.1.9.14"
unfolding dotted_text digits
extension_req_text = refl

abbrev pub spc_statement_type : List ℕ
spc_statement_type = 1 ∷ 3 ∷ 6 ∷ 1 ∷ 4 ∷ 1 ∷ 311 ∷ 2 ∷ 1 ∷ 11 ∷ []

pub spc_statement_type_text : dotted_text spc_statement_type ≡ codes "1.3.6.1.4.1.311.2.1.11"
unfolding dotted_text digits
spc_statement_type_text = refl

abbrev pub subject_key_identifier : List ℕ
subject_key_identifier = 2 ∷ 5 ∷ 29 ∷ 14 ∷ []

pub subject_key_identifier_text : dotted_text subject_key_identifier ≡ codes "2.5.29.14"
unfolding dotted_text digits
subject_key_identifier_text = refl

abbrev pub key_usage : List ℕ
key_usage = 2 ∷ 5 ∷ 29 ∷ 15 ∷ []

pub key_usage_text : dotted_text key_usage ≡ codes "2.5.29.15"
unfolding dotted_text digits
key_usage_text = refl

abbrev pub subject_alternative_name : List ℕ
subject_alternative_name = 2 ∷ 5 ∷ 29 ∷ 17 ∷ []

pub subject_alternative_name_text : dotted_text subject_alternative_name ≡ codes "2.5.29.17"
unfolding dotted_text digits
subject_alternative_name_text = refl

abbrev pub issuer_alternative_name : List ℕ
issuer_alternative_name = 2 ∷ 5 ∷ 29 ∷ 18 ∷ []

pub issuer_alternative_name_text : dotted_text issuer_alternative_name ≡ codes "2.5.29.18"
unfolding dotted_text digits
issuer_alternative_name_text = refl

abbrev pub basic_constraints : List ℕ
basic_constraints = 2 ∷ 5 ∷ 29 ∷ 19 ∷ []

pub basic_constraints_text : dotted_text basic_constraints ≡ codes "2.5.29.19"
unfolding dotted_text digits
basic_constraints_text = refl

abbrev pub crl_number : List ℕ
crl_number = 2 ∷ 5 ∷ 29 ∷ 20 ∷ []

pub crl_number_text : dotted_text crl_number ≡ codes "2.5.29.20"
unfolding dotted_text digits
crl_number_text = refl

abbrev pub authority_key_identifier : List ℕ
authority_key_identifier = 2 ∷ 5 ∷ 29 ∷ 35 ∷ []

pub authority_key_identifier_text : dotted_text authority_key_identifier ≡ codes "2.5.29.35"
unfolding dotted_text digits
authority_key_identifier_text = refl

abbrev pub extended_key_usage : List ℕ
extended_key_usage = 2 ∷ 5 ∷ 29 ∷ 37 ∷ []

pub extended_key_usage_text : dotted_text extended_key_usage ≡ codes "2.5.29.37"
unfolding dotted_text digits
extended_key_usage_text = refl

abbrev pub signed_data : List ℕ
signed_data = 1 ∷ 2 ∷ 840 ∷ 113549 ∷ 1 ∷ 7 ∷ 2 ∷ []

pub signed_data_text : dotted_text signed_data ≡ codes "1.2.840.113549.1.7.2"
unfolding dotted_text digits
signed_data_text = refl

abbrev pub pkinit_san : List ℕ
pkinit_san = 1 ∷ 3 ∷ 6 ∷ 1 ∷ 5 ∷ 2 ∷ 2 ∷ []

pub pkinit_san_text : dotted_text pkinit_san ≡ codes "1.3.6.1.5.2.2"
unfolding dotted_text digits
pkinit_san_text = refl

abbrev pub pkinit_auth_data : List ℕ
pkinit_auth_data = 1 ∷ 3 ∷ 6 ∷ 1 ∷ 5 ∷ 2 ∷ 3 ∷ 1 ∷ []

pub pkinit_auth_data_text : dotted_text pkinit_auth_data ≡ codes "1.3.6.1.5.2.3.1"
unfolding dotted_text digits
pkinit_auth_data_text = refl

abbrev pub pkinit_dhkey_data : List ℕ
pkinit_dhkey_data = 1 ∷ 3 ∷ 6 ∷ 1 ∷ 5 ∷ 2 ∷ 3 ∷ 2 ∷ []

pub pkinit_dhkey_data_text : dotted_text pkinit_dhkey_data ≡ codes "1.3.6.1.5.2.3.2"
unfolding dotted_text digits
pkinit_dhkey_data_text = refl

abbrev pub krb5 : List ℕ
krb5 = 1 ∷ 2 ∷ 840 ∷ 113554 ∷ 1 ∷ 2 ∷ 2 ∷ []

pub krb5_text : dotted_text krb5 ≡ codes "1.2.840.113554.1.2.2"
unfolding dotted_text digits
krb5_text = refl

abbrev pub iakerb5 : List ℕ
iakerb5 = 1 ∷ 3 ∷ 6 ∷ 1 ∷ 5 ∷ 2 ∷ 5 ∷ []

pub iakerb5_text : dotted_text iakerb5 ≡ codes "1.3.6.1.5.2.5"
unfolding dotted_text digits
iakerb5_text = refl

abbrev pub spnego : List ℕ
spnego = 1 ∷ 3 ∷ 6 ∷ 1 ∷ 5 ∷ 5 ∷ 2 ∷ []

pub spnego_text : dotted_text spnego ≡ codes "1.3.6.1.5.5.2"
unfolding dotted_text digits
spnego_text = refl
