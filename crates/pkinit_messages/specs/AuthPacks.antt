-- AuthPack and PKAuthenticator with fields that later documents add (RFC 4556, section 3.2.1; RFC 8636, section 6; RFC 8070, section 4).
use Rattle.std.specs.Prelude.{Bool, ◌&&◌, [], List, Option}
use Rattle.std.specs.Option.{option_map, option_map_or}
use Rattle.std.proofs.Common.{sym, ◌∙◌}
use Rattle.asn1_der.specs.Octets.{sequence_octet}
use Rattle.asn1_der.specs.Tagged.{tagged_tree}
use Rattle.asn1_der.specs.Tree.{Tree, Writes}
use Rattle.asn1_der.proofs.Tagged.{tagged-injective}
use Rattle.asn1_leaves.specs.GeneralizedTime.{seconds_of}
use Rattle.picky_asn1.specs.Bytes.{Bytes}
use Rattle.picky_asn1_der.specs.Raw.{Raw}
use Rattle.decision_tables.specs.One.{IsSole}
use Rattle.krb_time.specs.Times.{moment_at}
use Rattle.krb_time.specs.Units.{Micros}
use Rattle.pkinit_messages.specs.Further.{ascend}
use Rattle.pkinit_messages.specs.contracts.agility.auth_pack.ExtensibleAuthPackTagged.TheImpl as pack_impl
use Rattle.pkinit_messages.specs.declared.agility.auth_pack.ExtensibleAuthPack.{ExtensibleAuthPack}
use Rattle.pkinit_messages.specs.declared.agility.authenticator.ExtensiblePkAuthenticator.{ExtensiblePkAuthenticator}
use Rattle.pkinit_messages.specs.declared.agility.kdf_algorithm_id.KdfAlgorithmId.{KdfAlgorithmId}

abbrev pub extensible_tree : ExtensibleAuthPack → Tree
extensible_tree = tagged_tree sequence_octet pack_impl.ghosts.row_tree pack_impl.ghosts.row_of

-- the bytes are the one DER encoding of this AuthPack
unfoldable pub IsExtensibleAuthPack : Bytes → ExtensibleAuthPack → Type 0
IsExtensibleAuthPack bytes pack = Writes extensible_tree pack bytes

pub sole_extensible_auth_pack : (bytes : Bytes) → IsSole (IsExtensibleAuthPack bytes)
unfolding IsExtensibleAuthPack
sole_extensible_auth_pack bytes v w p q =
    tagged-injective sequence_octet pack_impl.ghosts.row_tree pack_impl.ghosts.row_laws pack_impl.ghosts.row_of pack_impl.ghosts.one_row v w p.0 q.0 (sym p.1 ∙ q.1)

-- its PKAuthenticator
abbrev pub authenticator_in : ExtensibleAuthPack → ExtensiblePkAuthenticator
authenticator_in pack = pack.pk_authenticator.0

-- The further fields of AuthPack and of PKAuthenticator ascend beyond [4], each number once (X.680, section 25.6).
-- Test: `field [6] twice`, `fields [7], [6]`, `PKAuthenticator, field [6] twice`.
abbrev pub are_in_order : ExtensibleAuthPack → Bool
are_in_order pack = ascend 4 pack.further && ascend 4 (authenticator_in pack).further

-- the element of clientPublicValue, if it is there
abbrev pub value_in : ExtensibleAuthPack → Option Raw
value_in pack = option_map (λ tagged. tagged.0) pack.client_public_value.0

-- the time of ctime and cusec, or none where cusec is no part of a second
unfoldable pub time_in : ExtensibleAuthPack → Option Micros
time_in pack = moment_at (seconds_of (authenticator_in pack).ctime.0.0) (authenticator_in pack).cusec.0

-- the octets of paChecksum, if it is there
abbrev pub checksum_in : ExtensibleAuthPack → Option Bytes
checksum_in pack = option_map (λ tagged. tagged.0) (authenticator_in pack).pa_checksum.0

-- the key derivation functions of supportedKDFs; none where it is missing
abbrev pub kdfs_in : ExtensibleAuthPack → List KdfAlgorithmId
kdfs_in pack = option_map_or (λ tagged. tagged.0) pack.supported_kdfs.0 []
