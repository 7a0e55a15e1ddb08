-- Signatures that are valid, and why others aren't (RFC 8017, section 8.2.2).
use Rattle.std.specs.Prelude.{◌≡◌, ℕ, ◌^◌, ◌%◌, Bool, ◌&&◌, ◌||◌, nat_eq, nat_lt, List, length, Option, Some, None, Result, Ok, Err, refl, if◌then◌else◌}
use Rattle.std.specs.Str.{bytes_eq}
use Rattle.asn1_leaves.specs.ObjectIdentifier.{oid_content, subidentifier}
use Rattle.picky_asn1.specs.Bytes.{Bytes}
use Rattle.picky_asn1.specs.Integer.{unsigned_octets}
use Rattle.x509_oids.specs.Identifiers as oids
use Rattle.x509_algorithms.specs.Arcs.{octet_behind}
use Rattle.x509_algorithms.specs.AlgorithmClasses.{pkcs1}
use Rattle.x509_algorithms.specs.declared.algorithm_identifier.AlgorithmIdentifier.{AlgorithmIdentifier}
use Rattle.x509_keys.specs.declared.public_key.PublicKey.{PublicKey}
use Rattle.x509_keys.specs.declared.public_key.PublicKey.TheVariants.{Rsa, Ec, Ed, Mldsa}
use Rattle.x509_keys.specs.declared.rsa_public_key.RsaPublicKey.{RsaPublicKey}
use Rattle.x509_keys.specs.declared.subject_public_key_info.SubjectPublicKeyInfo.{SubjectPublicKeyInfo}
use Rattle.modular_arithmetic.specs.Naturals.{i2osp, os2ip}
use Rattle.modular_arithmetic.specs.declared.modulus.ModulusRefusal.{ModulusRefusal}
use Rattle.modular_arithmetic.specs.declared.modulus.ModulusRefusal.TheVariants as modulus
use Rattle.public_key_cryptography.specs.Keys.{refusal_of}
use Rattle.public_key_cryptography.specs.Pkcs1.{encoded}
use Rattle.public_key_cryptography.specs.declared.hash.HashFunction.{HashFunction}
use Rattle.public_key_cryptography.specs.declared.hash.HashFunction.TheVariants.{Sha1 as HashSha1, Sha256, Sha384, Sha512}
use Rattle.public_key_cryptography.specs.declared.public_key.KeyRefusal.{KeyRefusal}
use Rattle.public_key_cryptography.specs.declared.public_key.KeyRefusal.TheVariants as by
use Rattle.rsa_keys.specs.Values.{is_natural}
use Rattle.rsa_keys.specs.declared.refusal.RsaKeyRefusal.{RsaKeyRefusal}
use Rattle.rsa_keys.specs.declared.refusal.RsaKeyRefusal.TheVariants.{NotRsa, NegativeNumber, KeyTooWeak, ModulusTooLong, EvenModulus, ExponentTooSmall, EvenExponent, ExponentTooLong, ZeroInFront}
use Rattle.rsa_keys.specs.declared.refusal.SignatureRefusal.{SignatureRefusal}
use Rattle.rsa_keys.specs.declared.refusal.SignatureRefusal.TheVariants.{Md5, Sha1, OtherAlgorithm, Key, NotValid}

-- The hash function of 1.2.840.113549.1.1.ARC (RFC 8017, appendix C). In CMS rsaEncryption is next to the digest algorithm (RFC
-- 3370, section 3.2), and the one form of signed data that is read has SHA-256 there.
abbrev pub hash_named : ℕ → Result HashFunction SignatureRefusal
hash_named arc =
    if nat_eq arc 1 || nat_eq arc 11 then Ok Sha256
    else if nat_eq arc 12 then Ok Sha384
    else if nat_eq arc 13 then Ok Sha512
    -- A signature isn't over MD5 (RFC 6151, section 2). Test: `check Md5`.
    else if nat_eq arc 4 then Err Md5
    -- A signature isn't over SHA-1 (RFC 8017, appendix B.1). Test: `check Sha1`.
    else if nat_eq arc 5 then Err Sha1
    -- A signature is RSASSA-PKCS1-v1_5 with SHA-256, SHA-384 or SHA-512 (RFC 8017, section 8.2). Test: `check OtherAlgorithm`.
    else Err OtherAlgorithm

abbrev pub hash_behind : Option ℕ → Result HashFunction SignatureRefusal
hash_behind (Some arc) = hash_named arc
hash_behind None = Err OtherAlgorithm

-- the hash function of a signature's algorithm
unfoldable pub hash_of : AlgorithmIdentifier → Result HashFunction SignatureRefusal
hash_of algorithm = hash_behind (octet_behind pkcs1 (oid_content algorithm.algorithm.0))

-- RSASSA-PKCS1-v1_5-VERIFY with the modulus n and the exponent e (RFC 8017, section 8.2.2): the signature is as long as the modulus and
-- below it, and its power is the encoded message
abbrev pub is_valid : List ℕ → List ℕ → HashFunction → Bytes → Bytes → Bool
is_valid n e hash message signature =
    nat_eq (length signature) (length n) && nat_lt (os2ip signature) (os2ip n)
    && bytes_eq (i2osp (length n) (os2ip signature ^ os2ip e % os2ip n)) (encoded (length n) hash message)

-- the name of a modulus's refusal; one of fewer than two octets is too weak
abbrev pub modulus_named : ModulusRefusal → RsaKeyRefusal
modulus_named modulus.TooShort = KeyTooWeak
-- A modulus has at most 4,096 bits. Test: `check ModulusTooLong`, `own ModulusTooLong`.
modulus_named modulus.TooLong = ModulusTooLong
modulus_named modulus.ZeroInFront = ZeroInFront
-- A modulus is odd (RFC 8017, section 3.1). Test: `check EvenModulus`, `own EvenModulus`.
modulus_named modulus.Even = EvenModulus

-- the name of a key's refusal
abbrev pub refusal_named : KeyRefusal → RsaKeyRefusal
refusal_named (by.Modulus refusal) = modulus_named refusal
-- A modulus has at least 2,048 bits. Test: `check KeyTooWeak`, `own KeyTooWeak`.
refusal_named by.KeyTooWeak = KeyTooWeak
-- A public exponent has at most 64 bits. Test: `check ExponentTooLong`, `own ExponentTooLong`.
refusal_named by.ExponentTooLong = ExponentTooLong
-- A public exponent isn't 0 or 1 (RFC 8017, section 3.1). Test: `check ExponentTooSmall`, `own ExponentTooSmall`.
refusal_named by.ExponentTooSmall = ExponentTooSmall
refusal_named by.ExponentZeroInFront = ZeroInFront
-- A public exponent is odd (RFC 8017, section 3.1). Test: `check EvenExponent`, `own EvenExponent`.
refusal_named by.EvenExponent = EvenExponent

-- a modulus and a public exponent as octets, the most significant first
abbrev pub Numbers : Type 0
Numbers = List ℕ × List ℕ

-- the modulus and public exponent of an RSA key, unless one of them is negative
abbrev pub numbers_of : RsaPublicKey → Result Numbers RsaKeyRefusal
numbers_of key =
    if is_natural key.modulus && is_natural key.public_exponent then Ok (unsigned_octets key.modulus, unsigned_octets key.public_exponent)
    -- Modulus and public exponent aren't negative (RFC 8017, section 3.1). Test: `check NegativeNumber`, `own NegativeNumber`.
    else Err NegativeNumber

-- the modulus and public exponent of a public key, if it is an RSA key
abbrev pub numbers_in : PublicKey → Result Numbers RsaKeyRefusal
numbers_in (Rsa key) = numbers_of key.0
-- The key is one of RSA, as the signature's algorithm is (RFC 8017, section 8.2.2). Test: `check NotRsa`.
numbers_in (Ec point) = Err NotRsa
numbers_in (Ed point) = Err NotRsa
numbers_in (Mldsa bits) = Err NotRsa

-- the answer to a signature that is valid or not
abbrev pub verdict : Bool → Result (Unit {0}) SignatureRefusal
-- A signature is that of the key over these bytes (RFC 8017, section 8.2.2). Test: `check NotValid`.
verdict valid = if valid then Ok tt else Err NotValid

-- what becomes of a signature under numbers that are refused for this reason, or for none
abbrev pub by_refusal : Option KeyRefusal → HashFunction → Numbers → Bytes → Bytes → Result (Unit {0}) SignatureRefusal
by_refusal (Some refusal) hash numbers message signature = Err (Key (refusal_named refusal))
by_refusal None hash numbers message signature = verdict (is_valid numbers.0 numbers.1 hash message signature)

-- what becomes of a signature under these numbers of a key: the modulus and the exponent
abbrev pub by_numbers : HashFunction → Numbers → Bytes → Bytes → Result (Unit {0}) SignatureRefusal
by_numbers hash numbers message signature = by_refusal (refusal_of numbers.0 numbers.1) hash numbers message signature

-- what becomes of a signature under a key: its numbers decide it, or the key is refused
abbrev pub by_key : HashFunction → Result Numbers RsaKeyRefusal → Bytes → Bytes → Result (Unit {0}) SignatureRefusal
by_key hash (Ok numbers) message signature = by_numbers hash numbers message signature
by_key hash (Err refusal) message signature = Err (Key refusal)

-- what becomes of a signature under a key and the hash function of its algorithm, if it has one
abbrev pub by_hash : Result HashFunction SignatureRefusal → PublicKey → Bytes → Bytes → Result (Unit {0}) SignatureRefusal
by_hash (Ok hash) key message signature = by_key hash (numbers_in key) message signature
by_hash (Err refusal) key message signature = Err refusal

-- a signature is valid, or why it isn't: the algorithm is judged first, then the key, then the signature
unfoldable pub checked : SubjectPublicKeyInfo → AlgorithmIdentifier → Bytes → Bytes → Result (Unit {0}) SignatureRefusal
checked key algorithm message signature = by_hash (hash_of algorithm) key.subject_public_key message signature

-- the same for a signature with SHA-1
unfoldable pub sha1_checked : SubjectPublicKeyInfo → Bytes → Bytes → Result (Unit {0}) SignatureRefusal
sha1_checked key message signature = by_hash (Ok HashSha1) key.subject_public_key message signature

-- the algorithms by their names

pub sha256_named : hash_behind (octet_behind pkcs1 (oid_content oids.sha256_with_rsa_encryption)) ≡ Ok Sha256
unfolding oid_content subidentifier
sha256_named = refl

sha384_named : hash_behind (octet_behind pkcs1 (oid_content oids.sha384_with_rsa_encryption)) ≡ Ok Sha384
unfolding oid_content subidentifier
sha384_named = refl

sha512_named : hash_behind (octet_behind pkcs1 (oid_content oids.sha512_with_rsa_encryption)) ≡ Ok Sha512
unfolding oid_content subidentifier
sha512_named = refl

rsa_named : hash_behind (octet_behind pkcs1 (oid_content oids.rsa_encryption)) ≡ Ok Sha256
unfolding oid_content subidentifier
rsa_named = refl

sha1_named : hash_behind (octet_behind pkcs1 (oid_content oids.sha1_with_rsa_encryption)) ≡ Err Sha1
unfolding oid_content subidentifier
sha1_named = refl

md5_named : hash_behind (octet_behind pkcs1 (oid_content oids.md5_with_rsa_encrypthion)) ≡ Err Md5
unfolding oid_content subidentifier
md5_named = refl

pss_named : hash_behind (octet_behind pkcs1 (oid_content oids.rsassa_pss)) ≡ Err OtherAlgorithm
unfolding oid_content subidentifier
pss_named = refl
