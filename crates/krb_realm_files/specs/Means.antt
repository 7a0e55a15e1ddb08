-- What logins by certificate are answered by, in DER: the KDC's certificate, its private key, and the anchor, one after the other.
use Rattle.std.specs.Prelude.{◌≡◌, ◌≢◌, ◌⊎◌, ℕ, zero, suc, List, [], ◌∷◌, Option, None, Some, if◌then◌else◌}
use Rattle.picky_asn1.specs.Bytes.{Bytes}
use Rattle.asn1_der.specs.Octets.{sequence_octet}
use Rattle.asn1_der.specs.Tagged.{tagged_tree}
use Rattle.asn1_der.specs.Tree.{Writes}
use Rattle.picky_asn1_der.specs.Raw.{Raw}
use Rattle.picky_asn1_der.specs.Parts.{AreElements}
use Rattle.picky_asn1_der.specs.Splits.{IsNoSplit, SplitsInto, raw_bytes}
use Rattle.x509_certificates.specs.declared.certificate.Certificate.{Certificate}
use Rattle.x509_certificates.specs.contracts.certificate.CertificateSpelled.TheImpl as certificate_impl
use Rattle.x509_keys.specs.declared.rsa_private_key.RsaPrivateKey.{RsaPrivateKey}
use Rattle.x509_keys.specs.contracts.rsa_private_key.RsaPrivateKeyTagged.TheImpl as private_key_impl
use Rattle.public_key_cryptography.specs.declared.group.Group.TheVariants.{Modp2048}
use Rattle.krb_kdc_exchanges.specs.Rows.{PkinitRows}
use Rattle.pkinit_validation.specs.PolicyRows.{policy_rows}
use Rattle.pkinit_validation.specs.declared.policies.policy.GeneralPolicy.{GeneralPolicy}
use Rattle.krb_realm_accounts.specs.declared.policy.Policy.{Policy}
use Rattle.pkinit_validation.specs.Trust.{TrustRecord}
use Rattle.pkinit_validation.specs.Anchors.{AnchorRecord, anchor_of}
use Rattle.rsa_keys.specs.Functions.{IsPublicPart, rsa_functions}
use Rattle.rsa_keys.specs.OwnKeys.{key_refusal}
use Rattle.rsa_keys.specs.PrivateKeys.{IsOwnKeyOf, public_part}
use Rattle.rsa_keys.specs.declared.own_key.OwnKey.{OwnKey}
use Rattle.rsa_keys.specs.declared.refusal.RsaKeyRefusal.{RsaKeyRefusal}
use Rattle.krb_realm_files.specs.declared.means.PkinitMeans.{PkinitMeans}
use Rattle.krb_realm_files.specs.declared.pkinit_fault.PkinitFault.{PkinitFault}
use Rattle.krb_realm_files.specs.declared.pkinit_fault.PkinitFault.TheVariants.{NotThree, Certificate as NoCertificate, Key, Refused, OtherKey, Anchor, Memory}

-- The octets are these three elements of DER.
pub record AreParts (octets certificate key anchor : Bytes) : Type 0 where
  pub first : Raw
  pub second : Raw
  pub third : Raw
  pub row : AreElements (first ∷ second ∷ third ∷ []) octets
  pub certificate_is : certificate ≡ raw_bytes first
  pub key_is : key ≡ raw_bytes second
  pub anchor_is : anchor ≡ raw_bytes third

-- The octets are other than so many elements: behind those that they begin with there is none, or something is left.
abbrev pub IsNoRow : ℕ → Bytes → Type 0
IsNoRow zero octets = octets ≢ []
IsNoRow (suc n) octets = IsNoSplit octets ⊎ ((raw : Raw) × (rest : Bytes) × SplitsInto octets raw rest × IsNoRow n rest)

-- The octets are a certificate, and the holder is its subject with its public key.
unfoldable pub IsHolder : Bytes → AnchorRecord → Type 0
IsHolder bytes holder = (certificate : Certificate) × (count : ℕ) × certificate_impl.ghosts.spells certificate bytes count × (holder ≡ anchor_of certificate)

-- They are none.
unfoldable pub IsNoHolder : Bytes → Type 0
IsNoHolder bytes = (certificate : Certificate) (count : ℕ) → certificate_impl.ghosts.spells certificate bytes count → ⊥

-- The octets are the one DER encoding of this private key (RFC 8017, appendix A.1.2).
unfoldable pub IsPrivateKey : Bytes → RsaPrivateKey → Type 0
IsPrivateKey bytes private = Writes (tagged_tree sequence_octet private_key_impl.ghosts.row_tree private_key_impl.ghosts.row_of) private bytes

-- The octets are the private key of this key by which the KDC signs.
abbrev pub IsOwnIn : Bytes → OwnKey → Type 0
IsOwnIn bytes own = (private : RsaPrivateKey) × IsPrivateKey bytes private × IsOwnKeyOf private own

-- Why the octets are none: no private key, or one that is refused.
abbrev pub IsNoOwnIn : Bytes → PkinitFault → Type 0
IsNoOwnIn bytes Key = (private : RsaPrivateKey) → IsPrivateKey bytes private → ⊥
IsNoOwnIn bytes (Refused why) = (private : RsaPrivateKey) × IsPrivateKey bytes private × (key_refusal (public_part private) ≡ Some why)
IsNoOwnIn bytes Memory = Unit {0}
IsNoOwnIn bytes NotThree = ⊥
IsNoOwnIn bytes NoCertificate = ⊥
IsNoOwnIn bytes OtherKey = ⊥
IsNoOwnIn bytes Anchor = ⊥

-- The private key that signs dhSignedData is that of the KDC's certificate (RFC 4556, section 3.2.3.1). Test: `pkinit_other_key.cdb`.
pub record IsPair (certificate key : Bytes) (own : OwnKey) : Type 0 where
  pub holder : AnchorRecord
  pub is_holder : IsHolder certificate holder
  pub is_own : IsOwnIn key own
  pub is_part : IsPublicPart own holder.key

-- The private key is another one.
pub record IsOtherKey (certificate key : Bytes) : Type 0 where
  pub holder : AnchorRecord
  pub own : OwnKey
  pub is_holder : IsHolder certificate holder
  pub is_own : IsOwnIn key own
  pub is_other : IsPublicPart own holder.key → ⊥

-- Why a certificate and a key are no such pair.
abbrev pub IsNoPair : Bytes → Bytes → PkinitFault → Type 0
IsNoPair certificate key NoCertificate = IsNoHolder certificate
IsNoPair certificate key OtherKey = IsOtherKey certificate key
IsNoPair certificate key fault = IsNoOwnIn key fault

-- The means have the anchor, the certificate, and key functions of RSA with the certificate's key. Their agreements are in the group of
-- 2,048 bits (RFC 3526, section 3).
pub record AreMeans (certificate key anchor : Bytes) (means : PkinitMeans) : Type 0 where
  pub own : OwnKey
  pub is_pair : IsPair certificate key own
  pub is_anchor : IsHolder anchor means.anchor
  pub certificate_is : means.certificate.items ≡ certificate
  pub keys_are : means.keys ≡ record { group = Modp2048; own = Some own }

-- Why there are none.
abbrev pub IsNoMeans : Bytes → Bytes → Bytes → PkinitFault → Type 0
IsNoMeans certificate key anchor Anchor = IsNoHolder anchor
IsNoMeans certificate key anchor fault = IsNoPair certificate key fault

-- The octets are those of these means.
abbrev pub AreMeansIn : Bytes → PkinitMeans → Type 0
AreMeansIn octets means = (certificate : Bytes) × (key : Bytes) × (anchor : Bytes) × AreParts octets certificate key anchor × AreMeans certificate key anchor means

-- Why they are those of none.
abbrev pub IsUnusable : Bytes → PkinitFault → Type 0
IsUnusable octets NotThree = IsNoRow 3 octets
IsUnusable octets fault = (certificate : Bytes) × (key : Bytes) × (anchor : Bytes) × AreParts octets certificate key anchor × IsNoMeans certificate key anchor fault

-- The anchor and the KDC's certificate.
abbrev pub trust_in : PkinitMeans → TrustRecord
trust_in means = record { anchor = Some means.anchor; certificate = Some means.certificate.items }

-- What the realm takes beyond the rows of RFC 4556: nothing without algorithm agility.
abbrev pub general_policy : Policy → Option GeneralPolicy
general_policy policy = if policy.pkinit_agility then Some (record { takes_sha1 = policy.pkinit_sha1 }) else None

-- The rows by which requests by certificate are judged (RFC 4556, section 3.2.2).
abbrev pub rows_of : Option GeneralPolicy → PkinitMeans → PkinitRows
rows_of policy means = policy_rows policy (trust_in means) (rsa_functions means.keys.group means.keys.own)
