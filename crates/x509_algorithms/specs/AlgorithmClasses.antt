-- Classes of algorithms, by the object identifiers that tell them: those of one class have one kind of parameters.
use Rattle.std.specs.Prelude.{ℕ, Bool, ◌&&◌, ◌||◌, ◌==◌, nat_le, List, [], ◌∷◌}
use Rattle.x509_algorithms.specs.Arcs.{octet_behind, is_among}
use Rattle.x509_algorithms.specs.Arcs as arcs

-- pkcs-1: 1.2.840.113549.1.1
abbrev pub pkcs1 : List ℕ
pkcs1 = 0x2A ∷ 0x86 ∷ 0x48 ∷ 0x86 ∷ 0xF7 ∷ 0x0D ∷ 1 ∷ 1 ∷ []

-- digestAlgorithm of RSADSI: 1.2.840.113549.2
abbrev pub digests : List ℕ
digests = 0x2A ∷ 0x86 ∷ 0x48 ∷ 0x86 ∷ 0xF7 ∷ 0x0D ∷ 2 ∷ []

-- secsig algorithms of the OIW: 1.3.14.3.2
abbrev pub oiw : List ℕ
oiw = 0x2B ∷ 0x0E ∷ 3 ∷ 2 ∷ []

-- sigAlgs of NIST: 2.16.840.1.101.3.4.3
abbrev pub nist_signatures : List ℕ
nist_signatures = 0x60 ∷ 0x86 ∷ 0x48 ∷ 1 ∷ 0x65 ∷ 3 ∷ 4 ∷ 3 ∷ []

-- aes of NIST: 2.16.840.1.101.3.4.1
abbrev pub nist_ciphers : List ℕ
nist_ciphers = 0x60 ∷ 0x86 ∷ 0x48 ∷ 1 ∷ 0x65 ∷ 3 ∷ 4 ∷ 1 ∷ []

-- ecdsa-with-SHA2: 1.2.840.10045.4.3
abbrev pub ecdsa : List ℕ
ecdsa = 0x2A ∷ 0x86 ∷ 0x48 ∷ 0xCE ∷ 0x3D ∷ 4 ∷ 3 ∷ []

-- keyType of X9.62: 1.2.840.10045.2
abbrev pub curve_keys : List ℕ
curve_keys = 0x2A ∷ 0x86 ∷ 0x48 ∷ 0xCE ∷ 0x3D ∷ 2 ∷ []

-- thawte: 1.3.101
abbrev pub edwards : List ℕ
edwards = 0x2B ∷ 0x65 ∷ []

-- x9cm: 1.2.840.10040.4
abbrev pub dsa : List ℕ
dsa = 0x2A ∷ 0x86 ∷ 0x48 ∷ 0xCE ∷ 0x38 ∷ 4 ∷ []

abbrev pub is_rsa_of_pkcs1 : ℕ → Bool
is_rsa_of_pkcs1 arc = (arc == 1) || (nat_le 4 arc && nat_le arc 5) || (nat_le 11 arc && nat_le arc 14)

abbrev pub is_rsa_of_nist_signatures : ℕ → Bool
is_rsa_of_nist_signatures arc = (nat_le 13 arc && nat_le arc 16)

abbrev pub is_hash_of_digests : ℕ → Bool
is_hash_of_digests arc = (arc == 5)

abbrev pub is_hash_of_oiw : ℕ → Bool
is_hash_of_oiw arc = (arc == 26)

abbrev pub is_hash_of_nist_hashes : ℕ → Bool
is_hash_of_nist_hashes arc = (nat_le 1 arc && nat_le arc 12)

abbrev pub is_signature_of_ecdsa : ℕ → Bool
is_signature_of_ecdsa arc = (nat_le 2 arc && nat_le arc 4)

abbrev pub is_signature_of_nist_signatures : ℕ → Bool
is_signature_of_nist_signatures arc = (nat_le 9 arc && nat_le arc 12) || (nat_le 17 arc && nat_le arc 19)

abbrev pub is_signature_of_edwards : ℕ → Bool
is_signature_of_edwards arc = (nat_le 112 arc && nat_le arc 113)

abbrev pub is_plain_of_edwards : ℕ → Bool
is_plain_of_edwards arc = (nat_le 110 arc && nat_le arc 111)

abbrev pub is_plain_of_dsa : ℕ → Bool
is_plain_of_dsa arc = (arc == 3)

abbrev pub is_curve_key_arc : ℕ → Bool
is_curve_key_arc arc = (arc == 1)

abbrev pub is_pss_arc : ℕ → Bool
is_pss_arc arc = (arc == 10)

abbrev pub is_aes_arc : ℕ → Bool
is_aes_arc arc = (nat_le 1 arc && nat_le arc 8) || (nat_le 21 arc && nat_le arc 28) || (nat_le 41 arc && nat_le arc 48)

-- RSA keys and signatures of PKCS #1 (RFC 4055, sections 1.2 and 5).
abbrev pub is_rsa : List ℕ → Bool
is_rsa content = is_among is_rsa_of_pkcs1 (octet_behind pkcs1 content) || is_among is_rsa_of_nist_signatures (octet_behind nist_signatures content)

-- Hashes.
abbrev pub is_hash : List ℕ → Bool
is_hash content = is_among is_hash_of_digests (octet_behind digests content) || (is_among is_hash_of_oiw (octet_behind oiw content) || is_among is_hash_of_nist_hashes (octet_behind arcs.nist_hashes content))

-- Signatures that have no parameters: ECDSA, EdDSA and ML-DSA (RFC 5758, section 3.2; RFC 8410, section 3; RFC 9881, section 2).
abbrev pub is_signature : List ℕ → Bool
is_signature content = is_among is_signature_of_ecdsa (octet_behind ecdsa content) || (is_among is_signature_of_nist_signatures (octet_behind nist_signatures content) || is_among is_signature_of_edwards (octet_behind edwards content))

-- X25519, X448 and DSA with SHA-1 have no parameters: NULL is refused there (RFC 8410, section 3; RFC 3279, section 2.2.2).
-- Test: `300706032B656E0500` of `standards.txt`, `300B06072A8648CE3804030500` of `standards.txt`.
abbrev pub is_plain : List ℕ → Bool
is_plain content = is_among is_plain_of_edwards (octet_behind edwards content) || is_among is_plain_of_dsa (octet_behind dsa content)

-- Keys on elliptic curves (RFC 5480, section 2.1.1).
abbrev pub is_curve_key : List ℕ → Bool
is_curve_key content = is_among is_curve_key_arc (octet_behind curve_keys content)

-- RSASSA-PSS (RFC 8017, appendix A.2.3).
abbrev pub is_pss : List ℕ → Bool
is_pss content = is_among is_pss_arc (octet_behind pkcs1 content)

-- AES (NIST, Computer Security Objects Register).
abbrev pub is_aes : List ℕ → Bool
is_aes content = is_among is_aes_arc (octet_behind nist_ciphers content)
