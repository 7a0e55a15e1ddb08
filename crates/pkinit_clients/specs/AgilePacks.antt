-- What a client with algorithm agility signs to authenticate by certificate (RFC 4556, section 3.2.1; RFC 8636, section 6).
use Rattle.std.specs.Prelude.{ℕ, None, Some, List, [], ◌∷◌}
use Rattle.asn1_der.specs.Octets.{sequence_octet}
use Rattle.asn1_der.specs.Tagged.{tagged_tree}
use Rattle.asn1_der.specs.Tree.{Tree, Writes, der}
use Rattle.picky_asn1.specs.Bytes.{Bytes}
use Rattle.picky_asn1_der.specs.Raw.{Raw}
use Rattle.pkinit_messages.specs.Kdfs.{kdf_arcs}
use Rattle.pkinit_messages.specs.contracts.agility.asked_pack.AgileAuthPackTagged.TheImpl as pack_impl
use Rattle.pkinit_messages.specs.declared.agility.asked_pack.AgileAuthPack.{AgileAuthPack}
use Rattle.pkinit_messages.specs.declared.agility.auth_pack.ExtensibleAuthPack.{ExtensibleAuthPack}
use Rattle.pkinit_messages.specs.declared.agility.dh_rep_info.ChosenKdf.{ChosenKdf}
use Rattle.pkinit_messages.specs.declared.agility.kdf.Kdf.{Kdf}
use Rattle.pkinit_messages.specs.declared.agility.kdf.Kdf.TheVariants.{Sha1, Sha256, Sha512}
use Rattle.pkinit_messages.specs.declared.agility.kdf_algorithm_id.KdfAlgorithmId.{KdfAlgorithmId}
use Rattle.pkinit_messages.specs.declared.pk_authenticator.PkAuthenticator.{PkAuthenticator}
use Rattle.pkinit_validation.specs.Widened.{authenticator_widened}
use Rattle.pkinit_clients.specs.declared.agility.pack.TheConstants.{RSA_SHA256, RSA_SHA384, RSA_SHA512}

-- an AlgorithmIdentifier with this content
abbrev pub algorithm : List ℕ → Raw
algorithm content = record { first = sequence_octet; content = content }

-- The client takes replies that are signed by RSA with SHA-256, SHA-384 or SHA-512 (RFC 4556, section 3.2.1).
abbrev pub cms_types : List Raw
cms_types = algorithm RSA_SHA256 ∷ algorithm RSA_SHA384 ∷ algorithm RSA_SHA512 ∷ []

-- a key derivation function, as it is listed
abbrev pub listed : Kdf → ChosenKdf
listed kdf = record { kdf_id = record { 0 = record { 0 = kdf_arcs kdf } } }

-- It knows the key derivation functions with SHA-256, SHA-512 and SHA-1 (RFC 8636, section 6).
abbrev pub kdfs : List ChosenKdf
kdfs = listed Sha256 ∷ listed Sha512 ∷ listed Sha1 ∷ []

-- AuthPack has pkAuthenticator, clientPublicValue, supportedCMSTypes and supportedKDFs. It has no clientDHNonce (RFC 4556, section 3.2.1;
-- RFC 8636, section 6).
abbrev pub agile_pack_of : PkAuthenticator → Raw → AgileAuthPack
agile_pack_of authenticator value = record {
  pk_authenticator = record { 0 = authenticator };
  client_public_value = record { 0 = value };
  supported_cms_types = record { 0 = cms_types };
  supported_kdfs = record { 0 = kdfs };
}

abbrev pub agile_tree : AgileAuthPack → Tree
agile_tree = tagged_tree sequence_octet pack_impl.ghosts.row_tree pack_impl.ghosts.row_of

-- The DER encoding of an AuthPack (RFC 4556, section 3.2.1).
unfoldable pub agile_pack_bytes : AgileAuthPack → Bytes
agile_pack_bytes pack = der (agile_tree pack)

-- the bytes are the one DER encoding of this AuthPack
abbrev pub IsAgilePack : Bytes → AgileAuthPack → Type 0
IsAgilePack bytes pack = Writes agile_tree pack bytes

-- a key derivation function, as a realm reads it
abbrev pub listed_widened : Kdf → KdfAlgorithmId
listed_widened kdf = record { kdf_id = record { 0 = record { 0 = kdf_arcs kdf } }; further = [] }

-- the AuthPack, as a realm with algorithm agility reads it
abbrev pub asked_widened : PkAuthenticator → Raw → ExtensibleAuthPack
asked_widened authenticator value = record {
  pk_authenticator = record { 0 = authenticator_widened authenticator };
  client_public_value = record { 0 = Some (record { 0 = value }) };
  supported_cms_types = record { 0 = Some (record { 0 = cms_types }) };
  client_dh_nonce = record { 0 = None };
  supported_kdfs = record { 0 = Some (record { 0 = listed_widened Sha256 ∷ listed_widened Sha512 ∷ listed_widened Sha1 ∷ [] }) };
  further = [];
}
