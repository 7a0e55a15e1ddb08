-- What is in files of certificates and private keys.
use Rattle.std.specs.Prelude.{◌≡◌, ◌≢◌, ◌⊎◌, ℕ, List, ◌∷◌}
use Rattle.asn1_der.specs.Octets.{octet_string_octet, sequence_octet}
use Rattle.picky_asn1_der.specs.Raw.{Raw}
use Rattle.picky_asn1_der.specs.Splits.{SplitsInto}
use Rattle.x509_keys.specs.declared.private_key_info.PrivateKeyInfo.{PrivateKeyInfo}
use Rattle.x509_keys.specs.declared.private_key_value.PrivateKeyValue.TheVariants.{Rsa}
use Rattle.x509_keys.specs.declared.rsa_private_key.RsaPrivateKey.{RsaPrivateKey}
use Rattle.x509_certificates.specs.Pem.{IsAbsent, IsFound, IsNotFound, IsPem, begin_of}
use Rattle.x509_certificates.specs.declared.fault.FileFault.{FileFault}
use Rattle.x509_certificates.specs.declared.fault.FileFault.TheVariants.{Encrypted, Memory, NotFound, NotRead, NotRsa}
use Rattle.x509_certificates.specs.declared.pem.Found.{Found}
use Rattle.x509_certificates.specs.declared.pem.Label.{Label}
use Rattle.x509_certificates.specs.declared.pem.Label.TheVariants as label

-- a file that isn't PEM is DER as a whole
pub record IsWhole (file : List ℕ) (found : Found) : Type 0 where
  pub is_no_pem : IsPem file → ⊥
  pub whole : found.der.items ≡ file
  pub placed : found.place ≡ 0

-- the DER in a file: the boundaries of a label enclose it in PEM, or it is the whole file
abbrev pub IsIn : Label → List ℕ → Found → Type 0
IsIn label file found = (IsPem file × IsFound label file found) ⊎ IsWhole file found

-- why there is none: the file is PEM, and the boundaries of the label enclose none in it
abbrev pub IsNotIn : Label → List ℕ → FileFault → Type 0
IsNotIn label file fault = (fault ≡ Memory) ⊎ (IsPem file × IsNotFound label file fault)

-- the file is PEM in which no boundary begins what the label encloses
abbrev pub Lacks : Label → List ℕ → Type 0
Lacks label file = IsPem file × IsAbsent (begin_of label) file

-- the DER that was found is a spelling of a value
unfoldable pub IsSpelled : {T : Type 0} → (T → List ℕ → ℕ → Type 0) → Found → List ℕ → Type 0
IsSpelled {T} spells found der = (der ≡ found.der.items) × ((value : T) × (count : ℕ) × spells value found.der.items count)

-- memory ran out, or it is a spelling of no value
unfoldable pub IsUnspelled : {T : Type 0} → (T → List ℕ → ℕ → Type 0) → Found → FileFault → Type 0
IsUnspelled {T} spells found fault = (fault ≡ Memory) ⊎ ((fault ≡ NotRead found.place) × ((value : T) (count : ℕ) → spells value found.der.items count → ⊥))

-- the DER in a file is a spelling of a value
abbrev pub Holds : {T : Type 0} → (T → List ℕ → ℕ → Type 0) → Label → List ℕ → List ℕ → Type 0
Holds spells label file der = (found : Found) × IsIn label file found × IsSpelled spells found der

-- why there is no such DER
abbrev pub HoldsNone : {T : Type 0} → (T → List ℕ → ℕ → Type 0) → Label → List ℕ → FileFault → Type 0
HoldsNone spells label file fault = IsNotIn label file fault ⊎ ((found : Found) × IsIn label file found × IsUnspelled spells found fault)

-- the DER in a file of a private key. In PEM the label of PKCS#1 counts only where that of PKCS#8 is absent
abbrev pub IsKeyFound : List ℕ → Found → Type 0
IsKeyFound file found =
    IsIn label.PrivateKey file found ⊎ (Lacks label.PrivateKey file × IsIn label.RsaPrivateKey file found)

-- why a label that begins in a file encloses no DER there
abbrev pub IsBroken : Label → List ℕ → FileFault → Type 0
IsBroken label file fault = (fault ≢ NotFound) × IsNotIn label file fault

-- the fault stays another one than `NotFound`, in place of which there is one of these
abbrev pub IsGivenOr : FileFault → (FileFault → Type 0) → FileFault → Type 0
IsGivenOr given Is fault = ((given ≢ NotFound) × (fault ≡ given)) ⊎ ((given ≡ NotFound) × Is fault)

-- the fault of a file in which no key begins that isn't encrypted: an encrypted one is there, or not even that
abbrev pub IsNoPlainKey : List ℕ → FileFault → Type 0
IsNoPlainKey file fault =
    ((found : Found) × IsIn label.EncryptedPrivateKey file found × (fault ≡ Encrypted found.place)) ⊎ IsNotIn label.EncryptedPrivateKey file fault

-- the fault of a file without the DER of a key of PKCS#1
abbrev pub IsNoPkcs1Found : List ℕ → FileFault → Type 0
IsNoPkcs1Found file fault = IsBroken label.RsaPrivateKey file fault ⊎ (Lacks label.RsaPrivateKey file × IsNoPlainKey file fault)

-- the fault of a file without the DER of a private key. The first label that begins in the file counts, that of PKCS#8 before that of
-- PKCS#1, and that of an encrypted key last. It is `NotFound` only where none of the three begins
abbrev pub IsNoKeyFound : List ℕ → FileFault → Type 0
IsNoKeyFound file fault = IsBroken label.PrivateKey file fault ⊎ (Lacks label.PrivateKey file × IsNoPkcs1Found file fault)

-- the DER is a spelling of this value
unfoldable pub IsSpelling : {T : Type 0} → (T → List ℕ → ℕ → Type 0) → List ℕ → T → Type 0
IsSpelling {T} spells der value = (count : ℕ) × spells value der count

-- the DER is a spelling of no value
unfoldable pub IsNone : {T : Type 0} → (T → List ℕ → ℕ → Type 0) → List ℕ → Type 0
IsNone {T} spells der = (value : T) → IsSpelling spells der value → ⊥

-- DER of PKCS#8 or of PKCS#1 that holds the key
unfoldable pub IsKeyOf : (PrivateKeyInfo → List ℕ → ℕ → Type 0) → (RsaPrivateKey → List ℕ → ℕ → Type 0) → List ℕ → RsaPrivateKey → Type 0
IsKeyOf spells_info spells_key der key =
    ((info : PrivateKeyInfo) × IsSpelling spells_info der info × (info.fields.private_key ≡ Rsa (record { 0 = key }))) ⊎ IsSpelling spells_key der key

-- the content of a SEQUENCE begins with an algorithm, which is a SEQUENCE, and an OCTET STRING behind it
pub record IsSealed (content : List ℕ) : Type 0 where
  pub algorithm : Raw
  pub behind : List ℕ
  pub splits : SplitsInto content algorithm (octet_string_octet ∷ behind)
  pub is_sequence : algorithm.first ≡ sequence_octet

-- EncryptedPrivateKeyInfo begins the DER (RFC 5958, section 3)
pub record IsEncrypted (der : List ℕ) : Type 0 where
  pub info : Raw
  pub behind : List ℕ
  pub splits : SplitsInto der info behind
  pub is_sequence : info.first ≡ sequence_octet
  pub sealed : IsSealed info.content

-- the fault of DER that is neither of PKCS#8 nor of PKCS#1: an encrypted key is refused by name
abbrev pub IsUnread : Found → FileFault → Type 0
IsUnread found fault =
    (IsEncrypted found.der.items × (fault ≡ Encrypted found.place)) ⊎ ((IsEncrypted found.der.items → ⊥) × (fault ≡ NotRead found.place))

-- memory ran out, or the key isn't one of RSA
abbrev pub IsNotRsa : PrivateKeyInfo → ℕ → FileFault → Type 0
IsNotRsa info place fault = (fault ≡ Memory) ⊎ (((key : RsaPrivateKey) → info.fields.private_key ≢ Rsa (record { 0 = key })) × (fault ≡ NotRsa place))

-- the DER is a private key of PKCS#8 for another algorithm than RSA
abbrev pub IsOtherKey : (PrivateKeyInfo → List ℕ → ℕ → Type 0) → List ℕ → Type 0
IsOtherKey spells_info der = (info : PrivateKeyInfo) × IsSpelling spells_info der info × ((key : RsaPrivateKey) → info.fields.private_key ≢ Rsa (record { 0 = key }))

-- memory ran out, or the DER is no private key of PKCS#1
unfoldable pub IsNoPkcs1 : (RsaPrivateKey → List ℕ → ℕ → Type 0) → Found → FileFault → Type 0
IsNoPkcs1 spells_key found fault = (fault ≡ Memory) ⊎ (IsNone spells_key found.der.items × IsUnread found fault)

-- why the DER that was found holds no key of RSA: memory ran out, it is a key for another algorithm, or it is no private key
unfoldable pub IsNoKeyOf : (PrivateKeyInfo → List ℕ → ℕ → Type 0) → (RsaPrivateKey → List ℕ → ℕ → Type 0) → Found → FileFault → Type 0
IsNoKeyOf spells_info spells_key found fault =
    (fault ≡ Memory)
    ⊎ ((IsOtherKey spells_info found.der.items × (fault ≡ NotRsa found.place)) ⊎ (IsNone spells_info found.der.items × IsNoPkcs1 spells_key found fault))

-- the key is the one in the file
pub record HoldsKey (spells_info : PrivateKeyInfo → List ℕ → ℕ → Type 0) (spells_key : RsaPrivateKey → List ℕ → ℕ → Type 0) (file : List ℕ) (key : RsaPrivateKey) : Type 0 where
  pub found : Found
  pub is_found : IsKeyFound file found
  pub is_key : IsKeyOf spells_info spells_key found.der.items key

-- why there is no key in the file
abbrev pub HoldsNoKey : (PrivateKeyInfo → List ℕ → ℕ → Type 0) → (RsaPrivateKey → List ℕ → ℕ → Type 0) → List ℕ → FileFault → Type 0
HoldsNoKey spells_info spells_key file fault = IsNoKeyFound file fault ⊎ ((found : Found) × IsKeyFound file found × IsNoKeyOf spells_info spells_key found fault)
