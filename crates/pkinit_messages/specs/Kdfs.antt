-- The key derivation functions of RFC 8636, over SHA-1, SHA-256 and SHA-512.
use Rattle.std.specs.Prelude.{◌≡◌, ℕ, zero, suc, List, [], ◌∷◌, ◌++◌, Option, None, Some, take, refl, if◌then◌else◌}
use Rattle.std.specs.Bool.{nat_eq}
use Rattle.std.specs.Cmp.Lexicographic.{pointwise}
use Rattle.std.specs.Int.{div_ceil, to_be_bytes, w32}
use Rattle.sha1.specs.Sha1.{sha1}
use Rattle.sha2.specs.Sha256.{sha256}
use Rattle.sha2.specs.Sha512.{sha512}
use Rattle.asn1_leaves.specs.ObjectIdentifier.{oid_content, subidentifier}
use Rattle.pkinit_messages.specs.declared.agility.kdf.Kdf.{Kdf}
use Rattle.pkinit_messages.specs.declared.agility.kdf.Kdf.TheVariants.{Sha1, Sha256, Sha512}
use Rattle.pkinit_messages.specs.declared.agility.kdf.TheConstants.{KDF_SHA1, KDF_SHA256, KDF_SHA512}

-- The identifier of a function: id-pkinit-kdf-ah-sha1, id-pkinit-kdf-ah-sha256 or id-pkinit-kdf-ah-sha512 (RFC 8636, section 6).
abbrev pub kdf_arcs : Kdf → List ℕ
kdf_arcs Sha1 = 1 ∷ 3 ∷ 6 ∷ 1 ∷ 5 ∷ 2 ∷ 3 ∷ 6 ∷ 1 ∷ []
kdf_arcs Sha256 = 1 ∷ 3 ∷ 6 ∷ 1 ∷ 5 ∷ 2 ∷ 3 ∷ 6 ∷ 2 ∷ []
kdf_arcs Sha512 = 1 ∷ 3 ∷ 6 ∷ 1 ∷ 5 ∷ 2 ∷ 3 ∷ 6 ∷ 3 ∷ []

-- the constants have the content octets of the identifiers
abbrev pub kdf_content : Kdf → List ℕ
kdf_content Sha1 = KDF_SHA1
kdf_content Sha256 = KDF_SHA256
kdf_content Sha512 = KDF_SHA512

pub kdf_content-is : (kdf : Kdf) → oid_content (kdf_arcs kdf) ≡ kdf_content kdf
unfolding oid_content subidentifier
kdf_content-is Sha1 = refl
kdf_content-is Sha256 = refl
kdf_content-is Sha512 = refl

-- The function that an identifier names, if it is one of these three. SHA-384 isn't known here (RFC 8636, section 6).
-- Test: `kdf 18 4` of `agility.txt`.
abbrev pub kdf_named : List ℕ → Option Kdf
kdf_named oid =
    if pointwise nat_eq (oid_content oid) KDF_SHA1 then Some Sha1
    else if pointwise nat_eq (oid_content oid) KDF_SHA256 then Some Sha256
    else if pointwise nat_eq (oid_content oid) KDF_SHA512 then Some Sha512
    else None

-- the hash function H of a function, by its name (RFC 8636, section 6)
abbrev pub hash_of : Kdf → List ℕ → List ℕ
hash_of Sha1 octets = sha1 octets
hash_of Sha256 octets = sha256 octets
hash_of Sha512 octets = sha512 octets

-- how many octets a digest has
abbrev pub digest_size : Kdf → ℕ
digest_size Sha1 = 20
digest_size Sha256 = 32
digest_size Sha512 = 64

-- H(00000001 | x) | H(00000002 | x) | .., n of them: the counter has four octets and begins with 1 (RFC 8636, section 6)
unfoldable pub counted_digests : (List ℕ → List ℕ) → List ℕ → ℕ → List ℕ
counted_digests hash x zero = []
counted_digests hash x (suc n) = counted_digests hash x n ++ hash (to_be_bytes w32 (suc n) ++ x)

-- The first `len` octets that a function makes of x: of as many digests as they need (RFC 8636, section 6). Test: `kdf 18 1`, `kdf 18 2`,
-- `kdf 16 3`.
unfoldable pub kdf_octets : Kdf → ℕ → List ℕ → List ℕ
kdf_octets kdf len x = take len (counted_digests (hash_of kdf) x (div_ceil len (digest_size kdf)))
