-- The KRB-PRIV of a request, and what is encrypted in it (RFC 4120, section 5.7.1).
use Rattle.std.specs.Prelude.{◌+◌, ℤ, Bool, true, Option, None, Some}
use Rattle.std.specs.Int.{cast_unsigned, w32}
use Rattle.std.specs.Option.{option_map_or}
use Rattle.std.specs.Ordering.{int_eq}
use Rattle.std.proofs.Common.{sym, ◌∙◌}
use Rattle.asn1_der.specs.Octets.{sequence_octet}
use Rattle.asn1_der.specs.Tree.{Tree, Writes, wrapped}
use Rattle.asn1_der.specs.Tagged.{tagged_tree}
use Rattle.asn1_der.proofs.Spelling.{IsInjective, wrapped-injective}
use Rattle.asn1_der.proofs.Tagged.{tagged-injective}
use Rattle.decision_tables.specs.One.{IsSole}
use Rattle.picky_asn1.specs.Bytes.{Bytes}
use Rattle.picky_asn1.specs.Numbers.{is_number}
use Rattle.picky_asn1_der.specs.declared.wrapper.ExplicitContextTag.{ExplicitContextTag}
use Rattle.krb_constants.specs.declared.key_usages.TheConstants as usages
use Rattle.krb_constants.specs.declared.types.TheConstants.{APPLICATION, KRB_PRIV, KRB_PRIV_ENC_PART}
use Rattle.krb_crypto.specs.declared.suite.CipherSuite.{CipherSuite}
use Rattle.krb_messages.specs.declared.data_types.encrypted_data.EncryptedData.{EncryptedData}
use Rattle.krb_messages.specs.declared.data_types.encryption_key.EncryptionKey.{EncryptionKey}
use Rattle.krb_tickets.specs.SealedData.{IsSealedIn, sole_sealed}
use Rattle.krb_service.specs.Admission.{AdmissionRecord}
use Rattle.microsoft_messages.specs.declared.krb_priv.KrbPrivInner.{KrbPrivInner}
use Rattle.microsoft_messages.specs.declared.enc_krb_priv_part.EncKrbPrivPartInner.{EncKrbPrivPartInner}
use Rattle.microsoft_messages.specs.contracts.krb_priv.KrbPrivInnerTagged.TheImpl as krb_priv_impl
use Rattle.microsoft_messages.specs.contracts.enc_krb_priv_part.EncKrbPrivPartInnerTagged.TheImpl as enc_krb_priv_part_impl

abbrev pub krb_priv_inner_tree : KrbPrivInner → Tree
krb_priv_inner_tree = tagged_tree sequence_octet krb_priv_impl.ghosts.row_tree krb_priv_impl.ghosts.row_of

pub krb_priv_inner-injective : IsInjective krb_priv_inner_tree
krb_priv_inner-injective = tagged-injective 48 krb_priv_impl.ghosts.row_tree krb_priv_impl.ghosts.row_laws krb_priv_impl.ghosts.row_of krb_priv_impl.ghosts.one_row

-- [APPLICATION 21]
abbrev pub krb_priv_tree : KrbPrivInner → Tree
krb_priv_tree message = wrapped (APPLICATION + KRB_PRIV) (krb_priv_inner_tree message)

-- the bytes are the one encoding of the KRB-PRIV
abbrev pub IsKrbPriv : Bytes → KrbPrivInner → Type 0
IsKrbPriv bytes message = Writes krb_priv_tree message bytes

pub sole_krb_priv : (bytes : Bytes) → IsSole (IsKrbPriv bytes)
sole_krb_priv bytes v w p q = wrapped-injective (APPLICATION + KRB_PRIV) krb_priv_inner_tree krb_priv_inner-injective v w p.0 q.0 (sym p.1 ∙ q.1)

abbrev pub enc_krb_priv_part_inner_tree : EncKrbPrivPartInner → Tree
enc_krb_priv_part_inner_tree = tagged_tree sequence_octet enc_krb_priv_part_impl.ghosts.row_tree enc_krb_priv_part_impl.ghosts.row_of

pub enc_krb_priv_part_inner-injective : IsInjective enc_krb_priv_part_inner_tree
enc_krb_priv_part_inner-injective = tagged-injective 48 enc_krb_priv_part_impl.ghosts.row_tree enc_krb_priv_part_impl.ghosts.row_laws enc_krb_priv_part_impl.ghosts.row_of enc_krb_priv_part_impl.ghosts.one_row

-- [APPLICATION 28]
abbrev pub enc_krb_priv_part_tree : EncKrbPrivPartInner → Tree
enc_krb_priv_part_tree part = wrapped (APPLICATION + KRB_PRIV_ENC_PART) (enc_krb_priv_part_inner_tree part)

pub enc_krb_priv_part-injective : IsInjective enc_krb_priv_part_tree
enc_krb_priv_part-injective = wrapped-injective (APPLICATION + KRB_PRIV_ENC_PART) enc_krb_priv_part_inner_tree enc_krb_priv_part_inner-injective

-- The enc-part is encrypted under this key, for key usage 13 (RFC 4120, sections 5.7.1 and 7.5.1).
abbrev pub IsPrivatePart : CipherSuite → Bytes → EncryptedData → EncKrbPrivPartInner → Type 0
IsPrivatePart suite key encrypted part =
    IsSealedIn {T = EncKrbPrivPartInner} enc_krb_priv_part_tree suite key (cast_unsigned w32 usages.KRB_PRIV_ENC_PART) encrypted part

pub sole_private_part : (suite : CipherSuite) (key : Bytes) (encrypted : EncryptedData) → IsSole (IsPrivatePart suite key encrypted)
sole_private_part suite key encrypted =
    sole_sealed enc_krb_priv_part_tree enc_krb_priv_part-injective suite key (cast_unsigned w32 usages.KRB_PRIV_ENC_PART) encrypted

-- The key of the KRB-PRIV: the subkey of the authenticator, or the session key where it has none (RFC 3244, section 2; RFC 4120, section
-- 5.5.1). Test: `version 1: under the session key`, `version 1: KRB-PRIV under the session key beside a subkey` of `password_changes.txt`.
abbrev pub private_key : AdmissionRecord → EncryptionKey
private_key admission = option_map_or (λ key. key) admission.subkey admission.session

-- two sequence numbers are the same, where a missing one is 0
abbrev pub is_same_number : Option ℤ → Option (ExplicitContextTag 3 ℤ) → Bool
is_same_number None None = true
is_same_number None (Some own) = is_number 0 own.0
is_same_number (Some first) None = is_number 0 first
is_same_number (Some first) (Some own) = int_eq first own.0

-- The KRB-PRIV is the first message of the client: its seq-number is that of the authenticator (RFC 4120, sections 3.5.2 and 5.5.1).
abbrev pub is_first : AdmissionRecord → EncKrbPrivPartInner → Bool
is_first admission part = is_same_number admission.seq_number part.seq_number.0
