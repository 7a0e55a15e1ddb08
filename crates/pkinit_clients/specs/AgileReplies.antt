-- What a client with algorithm agility makes of a reply by certificate, in parts of one table: the first case that holds counts (RFC 4556,
-- section 3.2.4; RFC 8636, section 6).
use Rattle.std.specs.Prelude.{ℕ, Bool, false, not, Option, None, Some, Result, Ok, Err, Vec}
use Rattle.std.specs.Bool.{nat_eq}
use Rattle.std.specs.Cmp.Lexicographic.{pointwise}
use Rattle.std.specs.Global.{Global}
use Rattle.std.proofs.Common.{sym, ◌∙◌}
use Rattle.asn1_leaves.specs.ObjectIdentifier.{oid_content}
use Rattle.asn1_der.specs.Octets.{context_0_octet, sequence_octet}
use Rattle.asn1_der.specs.Tagged.{tagged_tree}
use Rattle.asn1_der.specs.Tree.{Tree, Writes, wrapped}
use Rattle.asn1_der.proofs.Spelling.{IsInjective, wrapped-injective}
use Rattle.asn1_der.proofs.Tagged.{tagged-injective}
use Rattle.picky_asn1.specs.Bytes.{Bytes}
use Rattle.picky_asn1_der.specs.declared.wrapper.ExplicitContextTag.{ExplicitContextTag}
use Rattle.decision_tables.specs.One.{IsSole}
use Rattle.decision_tables.specs.Tables.{Table, and_then, and_then_told, ask, done, need, refuse}
use Rattle.x509_keys.specs.KeyFunctions.{KeysRecord}
use Rattle.cms_signed_data.specs.GeneralContents.{GeneralParts, IsGeneralContent, content_of}
use Rattle.cms_signed_data.specs.GeneralLaws.{one_general}
use Rattle.pkinit_messages.specs.Kdfs.{kdf_named}
use Rattle.pkinit_messages.specs.contracts.agility.dh_rep_info.AgileDhRepInfoTagged.TheImpl as info_impl
use Rattle.pkinit_messages.specs.declared.agility.dh_rep_info.AgileDhRepInfo.{AgileDhRepInfo}
use Rattle.pkinit_messages.specs.declared.agility.dh_rep_info.ChosenKdf.{ChosenKdf}
use Rattle.pkinit_messages.specs.declared.agility.kdf.Kdf.{Kdf}
use Rattle.pkinit_validation.specs.Expected.{ExpectedRecord}
use Rattle.pkinit_validation.specs.GeneralTrust.{certificates_of, takes_digest, trusted_among}
use Rattle.pkinit_validation.specs.declared.policies.policy.GeneralPolicy.{GeneralPolicy}
use Rattle.pkinit_clients.specs.Asked.{PkinitAskedRecord, expected_realm}
use Rattle.pkinit_clients.specs.Replies.{of_key_data}
use Rattle.pkinit_clients.specs.declared.fault.ReplyFault.{ReplyFault}
use Rattle.pkinit_clients.specs.declared.fault.ReplyFault.TheVariants.{NotTrusted}
use Rattle.pkinit_clients.specs.declared.reply.TheConstants.{DH_KEY_DATA}

abbrev pub info_tree : AgileDhRepInfo → Tree
info_tree = tagged_tree sequence_octet info_impl.ghosts.row_tree info_impl.ghosts.row_of

info-injective : IsInjective info_tree
info-injective = tagged-injective sequence_octet info_impl.ghosts.row_tree info_impl.ghosts.row_laws info_impl.ghosts.row_of info_impl.ghosts.one_row

-- The bytes are the one DER encoding of a PA-PK-AS-REP with this dhInfo.
unfoldable pub IsAgileReply : Bytes → ExplicitContextTag 0 AgileDhRepInfo → Type 0
IsAgileReply bytes reply = Writes (λ (r : ExplicitContextTag 0 AgileDhRepInfo). wrapped context_0_octet (info_tree r.0)) reply bytes

pub sole_agile_reply : (bytes : Bytes) → IsSole (IsAgileReply bytes)
unfolding IsAgileReply
sole_agile_reply bytes v w p q =
    let same = wrapped-injective context_0_octet info_tree info-injective v.0 w.0 p.0 q.0 (sym p.1 ∙ q.1) in
    λ i. record { 0 = same i }

-- the secret, with the key derivation function if there is one
abbrev pub Found : Type 0
Found = Bytes × Option Kdf

-- what the code found, as definitions see it
abbrev pub as_found : Result (Vec ℕ Global × Option Kdf) ReplyFault → Result Found ReplyFault
as_found (Ok found) = Ok (found.0.items, found.1)
as_found (Err fault) = Err fault

-- The client takes no SHA-1.
abbrev pub no_sha1 : GeneralPolicy
no_sha1 = record { takes_sha1 = false }

-- The eContentType is id-pkinit-DHKeyData.
abbrev pub is_general_key_data : GeneralParts → Bool
is_general_key_data content = pointwise nat_eq (oid_content content.info.content.0.encap_content_info.content_type.0) DH_KEY_DATA

-- Judges the signature of dhSignedData by the principal that is expected to have signed it.
abbrev pub general_signed_by : KeysRecord → ExpectedRecord → GeneralParts → Table (Result (Unit {0}) ReplyFault)
general_signed_by keys expected content =
    and_then_told (λ refusal. NotTrusted) (trusted_among keys expected content (certificates_of content)) (λ _. done (Ok tt))

-- Judges signed data.
abbrev pub of_general_content : KeysRecord → PkinitAskedRecord → GeneralParts → Table (Result Bytes ReplyFault)
of_general_content keys asked content =
    -- The eContentType of dhSignedData is id-pkinit-DHKeyData (RFC 4556, section 3.2.3.1). Test: `content type of requests`.
    refuse (not (is_general_key_data content)) NotTrusted
    -- The digestAlgorithm of dhSignedData isn't SHA-1 (RFC 6194). Test: `SHA-1`, `taken, SHA-512`.
    (refuse (not (takes_digest no_sha1 content.algorithm)) NotTrusted
    -- The realm's ticket-granting service krbtgt signed dhSignedData, by a certificate that is accepted under the client's anchor (RFC
    -- 4556, section 3.2.4). Test: `certificate signed by another`, `certificate for krbtgt of another realm`,
    -- `certificate past its validity`.
    (and_then (general_signed_by keys (expected_realm asked) content) (λ _.
    of_key_data keys asked (content_of content.info))))

-- Judges the octets of dhSignedData.
abbrev pub of_general : KeysRecord → PkinitAskedRecord → Bytes → Table (Result Bytes ReplyFault)
of_general keys asked bytes =
    -- The octets of dhSignedData are a ContentInfo with SignedData of the general form (RFC 4556, section 3.2.3.1; RFC 5652, section 5).
    -- Test: `taken, key identifier of Samba`, `taken, signing time there`.
    ask (IsGeneralContent bytes) (one_general bytes) (done (Err NotTrusted)) (of_general_content keys asked)

-- Judges the key derivation function.
abbrev pub chosen_of : Option (ExplicitContextTag 2 ChosenKdf) → Table (Result (Option Kdf) ReplyFault)
chosen_of None = done (Ok None)
chosen_of (Some chosen) =
    -- The kdf of DHRepInfo, where it is there, is one that the client listed (RFC 8636, section 6). Test: `KDF 4`,
    -- `taken, KDF 2, suite 18`.
    need (kdf_named chosen.0.kdf_id.0.0) NotTrusted (λ kdf. done (Ok (Some kdf)))

-- Judges dhInfo.
abbrev pub of_info : KeysRecord → PkinitAskedRecord → AgileDhRepInfo → Table (Result Found ReplyFault)
of_info keys asked info =
    and_then (chosen_of info.kdf.0) (λ kdf.
    and_then (of_general keys asked info.dh_signed_data.0) (λ secret.
    done (Ok (secret, kdf))))

-- Judges the padata-value of a PA-PK-AS-REP.
unfoldable pub agile_secret : KeysRecord → PkinitAskedRecord → Bytes → Table (Result Found ReplyFault)
agile_secret keys asked padata =
    -- The padata-value is the one DER encoding of a PA-PK-AS-REP with dhInfo (RFC 4556, section 3.2.3). Test: `encKeyPack`, `00 behind`.
    ask (IsAgileReply padata) (sole_agile_reply padata) (done (Err NotTrusted)) (λ reply. of_info keys asked reply.0)
