-- What a client makes of a reply by certificate, in parts of one table: the first case that holds counts (RFC 4556, section 3.2.4).
use Rattle.std.specs.Prelude.{◌≡◌, Bool, not, Option, None, Some, Result, Ok, Err, refl}
use Rattle.std.specs.Bool.{nat_eq}
use Rattle.std.specs.Cmp.Lexicographic.{pointwise}
use Rattle.std.proofs.Common.{sym, ◌∙◌}
use Rattle.asn1_leaves.specs.ObjectIdentifier.{oid_content, subidentifier}
use Rattle.x509_oids.specs.Identifiers as oids
use Rattle.asn1_der.specs.Tree.{Writes}
use Rattle.asn1_der.specs.Tagged.{tagged_tree}
use Rattle.asn1_der.proofs.Tagged.{tagged-injective}
use Rattle.picky_asn1.specs.Bytes.{Bytes}
use Rattle.picky_asn1.specs.Numbers.{is_number}
use Rattle.decision_tables.specs.One.{IsSole}
use Rattle.decision_tables.specs.Tables.{Table, and_then, and_then_told, ask, done, need, refuse}
use Rattle.x509_keys.specs.KeyFunctions.{KeysRecord}
use Rattle.x509_keys.specs.KeyFunctions.TheirValue.{ValueBits}
use Rattle.cms_signed_data.specs.SignedContents.{IsSignedContent}
use Rattle.cms_signed_data.specs.SignedLaws.{one_content}
use Rattle.cms_signed_data.specs.SignedParts.{SignedParts, content_of}
use Rattle.pkinit_messages.specs.declared.kdc_dh_key_info.KdcDhKeyInfo.{KdcDhKeyInfo}
use Rattle.pkinit_messages.specs.declared.pa_pk_as_rep.PaPkAsRep.{PaPkAsRep}
use Rattle.pkinit_messages.specs.declared.pa_pk_as_rep.PaPkAsRep.TheVariants.{DhInfo, EncKeyPack}
use Rattle.pkinit_messages.specs.contracts.kdc_dh_key_info.KdcDhKeyInfoTagged.TheImpl as info_impl
use Rattle.pkinit_messages.specs.contracts.pa_pk_as_rep.PaPkAsRepSerialize.TheImpl as reply_impl
use Rattle.pkinit_validation.specs.Expected.{ExpectedRecord}
use Rattle.pkinit_validation.specs.SignedContents.{judged_in}
use Rattle.pkinit_validation.specs.Trusted.{trusted}
use Rattle.pkinit_clients.specs.Asked.{PkinitAskedRecord, expected_realm}
use Rattle.pkinit_clients.specs.Faults.{Secret}
use Rattle.pkinit_clients.specs.declared.fault.ReplyFault.{ReplyFault}
use Rattle.pkinit_clients.specs.declared.fault.ReplyFault.TheVariants.{NotTrusted}
use Rattle.asn1_der.specs.Octets.{sequence_octet}
use Rattle.pkinit_clients.specs.declared.reply.TheConstants.{DH_KEY_DATA}

-- The bytes are the one DER encoding of this PA-PK-AS-REP.
unfoldable pub IsPaPkAsRep : Bytes → PaPkAsRep → Type 0
IsPaPkAsRep bytes reply = Writes reply_impl.ghosts.tree reply bytes

pub sole_pa_pk_as_rep : (bytes : Bytes) → IsSole (IsPaPkAsRep bytes)
unfolding IsPaPkAsRep
sole_pa_pk_as_rep bytes v w p q = reply_impl.ghosts.injective v w p.0 q.0 (sym p.1 ∙ q.1)

-- The bytes are the one DER encoding of this KDCDHKeyInfo.
unfoldable pub IsKdcDhKeyInfo : Bytes → KdcDhKeyInfo → Type 0
IsKdcDhKeyInfo bytes info = Writes (tagged_tree sequence_octet info_impl.ghosts.row_tree info_impl.ghosts.row_of) info bytes

pub sole_kdc_dh_key_info : (bytes : Bytes) → IsSole (IsKdcDhKeyInfo bytes)
unfolding IsKdcDhKeyInfo
sole_kdc_dh_key_info bytes v w p q =
    tagged-injective sequence_octet info_impl.ghosts.row_tree info_impl.ghosts.row_laws info_impl.ghosts.row_of info_impl.ghosts.one_row v w p.0 q.0 (sym p.1 ∙ q.1)

-- DH_KEY_DATA has the content octets of id-pkinit-DHKeyData
pub dh_key_data-is : oid_content oids.pkinit_dhkey_data ≡ DH_KEY_DATA
unfolding oid_content subidentifier
dh_key_data-is = refl

-- The eContentType is id-pkinit-DHKeyData.
abbrev pub is_dh_key_data : SignedParts → Bool
is_dh_key_data content = pointwise nat_eq (oid_content content.info.content.0.encap_content_info.content_type.0) DH_KEY_DATA

-- The octets of dhSignedData, where PA-PK-AS-REP has dhInfo.
-- Ignored: serverDHNonce, since the client sends no clientDHNonce (RFC 4556, section 3.2.3.1).
-- Test: `open: e@R, server nonce there` of `pkinit_steps.txt`.
abbrev pub signed_in : PaPkAsRep → Option Bytes
signed_in (DhInfo info) = Some info.0.dh_signed_data.0
signed_in (EncKeyPack pack) = None

-- Judges a KDCDHKeyInfo: its nonce, and its subjectPublicKey by the client's key agreement.
-- Ignored: dhKeyExpiration, since the client uses its value once (RFC 4556, section 3.2.3.1).
-- Test: `a@R, key expiration there` of `pkinit_steps.txt`.
abbrev pub of_key_info : KeysRecord → PkinitAskedRecord → KdcDhKeyInfo → Table Secret
of_key_info keys asked info =
    -- The nonce of KDCDHKeyInfo is the request's (RFC 4556, section 3.2.3.1).
    -- Test: `a@R, PKAuthenticator's nonce is another`, `e@R, nonce modulo 2^32` of `pkinit_steps.txt`.
    refuse (not (is_number asked.nonce info.nonce.0)) NotTrusted
    -- The client's key agreement has a secret for subjectPublicKey (RFC 4556, section 3.2.3.1).
    -- Test: `b@R, agree none`, `a@R loose, agree none` of `pkinit_steps.txt`.
    (need (keys.agree (ValueBits info.subject_public_key.0) asked.words) NotTrusted (λ secret.
    done (Ok secret)))

-- Judges the eContent octets of dhSignedData.
abbrev pub of_key_data : KeysRecord → PkinitAskedRecord → Bytes → Table Secret
of_key_data keys asked bytes =
    -- The eContent of dhSignedData is the one DER encoding of a KDCDHKeyInfo (RFC 4556, section 3.2.3.1).
    -- Test: `a@R, KDCDHKeyInfo empty`, `a@R loose, KDCDHKeyInfo with 00 behind` of `pkinit_steps.txt`.
    ask (IsKdcDhKeyInfo bytes) (sole_kdc_dh_key_info bytes) (done (Err NotTrusted)) (of_key_info keys asked)

-- Judges the signature of dhSignedData by the principal that is expected to have signed it.
abbrev pub signed_by : KeysRecord → ExpectedRecord → SignedParts → Table (Result (Unit {0}) ReplyFault)
signed_by keys expected content =
    -- The expected principal signed dhSignedData, by a certificate that is accepted under the client's anchor (RFC 4556, section 3.2.4).
    -- Test: `a@R, certificate signed by another`, `e@R, signature wrong` of `pkinit_steps.txt`.
    and_then_told (λ refusal. NotTrusted) (trusted keys expected (judged_in content)) (λ _. done (Ok tt))

-- Judges SignedData of the one form.
abbrev pub of_content : KeysRecord → PkinitAskedRecord → SignedParts → Table Secret
of_content keys asked content =
    -- The eContentType of dhSignedData is id-pkinit-DHKeyData (RFC 4556, section 3.2.3.1).
    -- Test: `open: a@R, content type of requests` of `pkinit_steps.txt`.
    refuse (not (is_dh_key_data content)) NotTrusted
    -- The realm's ticket-granting service krbtgt signed dhSignedData. Its certificate is valid at the request's moment (RFC 4556, section
    -- 3.2.4). Test: `a@R, certificate for krbtgt of another realm`, `a@R, certificate ended a second ago` of `pkinit_steps.txt`.
    (and_then (signed_by keys (expected_realm asked) content) (λ _.
    of_key_data keys asked (content_of content.info)))

-- Judges the octets of dhSignedData.
abbrev pub of_signed : KeysRecord → PkinitAskedRecord → Bytes → Table Secret
of_signed keys asked bytes =
    -- The octets of dhSignedData are a ContentInfo with SignedData of the one form (RFC 4556, section 3.2.3.1; RFC 5652, section 5).
    -- Test: `e@R, signed content with 00 behind`, `e@R, signed content of two certificates` of `pkinit_steps.txt`.
    ask (IsSignedContent bytes) (one_content bytes) (done (Err NotTrusted)) (of_content keys asked)

-- Judges a PA-PK-AS-REP.
abbrev pub of_reply : KeysRecord → PkinitAskedRecord → PaPkAsRep → Table Secret
of_reply keys asked reply =
    -- PA-PK-AS-REP has dhInfo: encKeyPack is refused (RFC 4556, section 3.2.3). Test: `a@R, encKeyPack` of `pkinit_steps.txt`.
    need (signed_in reply) NotTrusted (of_signed keys asked)

-- Judges the padata-value of a PA-PK-AS-REP.
unfoldable pub secret_of : KeysRecord → PkinitAskedRecord → Bytes → Table Secret
secret_of keys asked padata =
    -- The padata-value is the one DER encoding of a PA-PK-AS-REP (RFC 4556, section 3.2.3).
    -- Test: `a@R, dhInfo with 00 behind`, `e@R, empty padata` of `pkinit_steps.txt`.
    ask (IsPaPkAsRep padata) (sole_pa_pk_as_rep padata) (done (Err NotTrusted)) (of_reply keys asked)
