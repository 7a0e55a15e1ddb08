-- An AuthPack of RFC 4556 as one that may have further fields, and has none.
use Rattle.std.specs.Prelude.{◌∷◌, List, [], None}
use Rattle.std.specs.Option.{option_map}
use Rattle.asn1_der.specs.Tree.{Tree, absent, constructed, ders, primitive}
use Rattle.picky_asn1_der.specs.Raw.{Raw}
use Rattle.picky_asn1_der.specs.declared.wrapper.ExplicitContextTag.{ExplicitContextTag}
use Rattle.x509_algorithms.specs.contracts.algorithm_identifier.AlgorithmIdentifierSerialize.TheImpl as algorithm_impl
use Rattle.x509_algorithms.specs.declared.algorithm_identifier.AlgorithmIdentifier.{AlgorithmIdentifier}
use Rattle.pkinit_messages.specs.declared.auth_pack.AuthPack.{AuthPack}
use Rattle.pkinit_messages.specs.declared.pk_authenticator.PkAuthenticator.{PkAuthenticator}
use Rattle.pkinit_messages.specs.declared.agility.auth_pack.ExtensibleAuthPack.{ExtensibleAuthPack}
use Rattle.pkinit_messages.specs.declared.agility.authenticator.ExtensiblePkAuthenticator.{ExtensiblePkAuthenticator}
use Rattle.pkinit_validation.specs.AuthPackFields.{AuthPackFieldsRecord}
use Rattle.pkinit_validation.specs.GeneralFields.{FieldsRecord}

-- a tree as the element that is its encoding
abbrev pub element_of : Tree → Raw
element_of (primitive first content) = record { first = first; content = content }
element_of (constructed first parts) = record { first = first; content = ders parts }
element_of absent = record { first = 0; content = [] }

-- algorithms as elements
abbrev pub elements_of : List AlgorithmIdentifier → List Raw
elements_of [] = []
elements_of (algorithm ∷ algorithms) = element_of (algorithm_impl.ghosts.tree algorithm) ∷ elements_of algorithms

abbrev pub types_widened : ExplicitContextTag 2 (List AlgorithmIdentifier) → ExplicitContextTag 2 (List Raw)
types_widened types = record { 0 = elements_of types.0 }

abbrev pub authenticator_widened : PkAuthenticator → ExtensiblePkAuthenticator
authenticator_widened authenticator = record {
  cusec = authenticator.cusec;
  ctime = authenticator.ctime;
  nonce = authenticator.nonce;
  pa_checksum = authenticator.pa_checksum;
  freshness_token = record { 0 = None };
  further = [];
}

-- the AuthPack without further fields
abbrev pub pack_widened : AuthPack Raw → ExtensibleAuthPack
pack_widened pack = record {
  pk_authenticator = record { 0 = authenticator_widened pack.pk_authenticator.0 };
  client_public_value = pack.client_public_value;
  supported_cms_types = record { 0 = option_map types_widened pack.supported_cms_types.0 };
  client_dh_nonce = pack.client_dh_nonce;
  supported_kdfs = record { 0 = None };
  further = [];
}

-- its fields, without a key derivation function
abbrev pub fields_widened : AuthPackFieldsRecord → FieldsRecord
fields_widened fields = record { value = fields.value; time = fields.time; nonce = fields.nonce; kdf = None }
