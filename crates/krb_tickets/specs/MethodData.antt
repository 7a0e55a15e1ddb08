-- METHOD-DATA, the e-data of KDC_ERR_PREAUTH_REQUIRED: how a client may authenticate first (RFC 4120, sections 5.2.7.5, 5.9.1).
use Rattle.std.specs.Prelude.{◌≡◌, ℕ, List, [], ◌∷◌, Option, None, Some, pos, codes, refl, if◌then◌else◌, Bool, true, false}
use Rattle.std.specs.Option.{option_map}
use Rattle.asn1_der.specs.Length.{element, length_octets}
use Rattle.asn1_der.specs.Tree.{Tree, constructed, der, trees_of}
use Rattle.asn1_leaves.specs.CharSets.{is_general_string}
use Rattle.picky_asn1.specs.Integer.{integer_content, natural_octets}
use Rattle.picky_asn1.specs.Bytes.{Bytes}
use Rattle.krb_crypto.specs.declared.suite.CipherSuite.{CipherSuite}
use Rattle.krb_crypto.specs.declared.suite.CipherSuite.TheVariants.{Aes256CtsHmacSha196}
use Rattle.krb_crypto.specs.Suites.{cipher_number}
use Rattle.krb_realm_accounts.specs.Account.{AccountRecord, one_key}
use Rattle.krb_constants.specs.declared.padata_types.TheConstants.{PA_ENC_TIMESTAMP, PA_ETYPE_INFO2, PA_PK_AS_REQ}
use Rattle.krb_messages.specs.declared.data_types.etype_info2.EtypeInfo2Entry.{EtypeInfo2Entry}
use Rattle.krb_messages.specs.declared.data_types.pa_data.PaData.{PaData}
use Rattle.krb_messages.specs.Trees as held
use Rattle.asn1_der.specs.Octets.{sequence_octet}

-- PA-ETYPE-INFO2 has one entry: the etype of the client's key, its salt if there is one, and no s2kparams (RFC 4120, section 5.2.7.5).
-- Test: `as no padata`, `as no preauthentication` of `kdc_exchanges.txt`.
abbrev pub key_entry : CipherSuite → Option Bytes → EtypeInfo2Entry
key_entry suite salt = record {
  etype = record { 0 = pos (cipher_number suite) };
  salt = record { 0 = option_map (λ s. record { 0 = s }) salt };
  s2kparams = record { 0 = None };
}

-- ETYPE-INFO2 as a tree
abbrev pub key_info_tree : List EtypeInfo2Entry → Tree
key_info_tree entries = constructed sequence_octet (trees_of held.etype_info2_entry_tree entries)

-- the encoding of ETYPE-INFO2 with the one entry of an account; nothing is written of a salt that is no GeneralString
unfoldable pub key_info_bytes : AccountRecord → Bytes
key_info_bytes account = der (key_info_tree (key_entry account.suite account.salt ∷ []))

-- the salt that the entry has: one that is a GeneralString, else none
abbrev pub salt_of : Option Bytes → Option Bytes
salt_of None = None
salt_of (Some salt) = if is_general_string salt then Some salt else None

-- the padata of this type with this value
abbrev pub pa_data_of : ℕ → Bytes → PaData
pa_data_of kind value = record { padata_type = record { 0 = pos kind }; padata_data = record { 0 = value } }

-- METHOD-DATA ends with an empty PA-PK-AS-REQ where the realm accepts certificates (RFC 4556, section 3.4). Test: `no preauthentication, b`
-- of `pkinit_exchanges.txt`.
abbrev pub method_list : Bool → PaData → PaData → List PaData
method_list false info timestamp = info ∷ timestamp ∷ []
method_list true info timestamp = info ∷ timestamp ∷ pa_data_of PA_PK_AS_REQ [] ∷ []

-- METHOD-DATA begins with PA-ETYPE-INFO2, and an empty PA-ENC-TIMESTAMP follows it (RFC 4120, sections 5.2.7.5 and 5.9.1). Test: `as no
-- preauthentication` of `kdc_exchanges.txt`.
unfoldable pub method_data : Bool → AccountRecord → List PaData
method_data by_certificate account = method_list by_certificate (pa_data_of PA_ETYPE_INFO2 (key_info_bytes account)) (pa_data_of PA_ENC_TIMESTAMP [])

-- METHOD-DATA as a tree
abbrev pub method_data_tree : List PaData → Tree
method_data_tree methods = constructed sequence_octet (trees_of held.pa_data_tree methods)

-- the encoding of METHOD-DATA for an account
unfoldable pub method_data_bytes : Bool → AccountRecord → Bytes
method_data_bytes by_certificate account = der (method_data_tree (method_data by_certificate account))

-- worked: the METHOD-DATA for an AES-256 key with the salt Ra
salted : (key : Bytes) (kvno : ℕ)
    → method_data_bytes false (one_key Aes256CtsHmacSha196 key kvno (Some (codes "Ra")))
    ≡ 0x30 ∷ 0x25 ∷ 0x30 ∷ 0x18 ∷ 0xA1 ∷ 0x03 ∷ 0x02 ∷ 0x01 ∷ 0x13 ∷ 0xA2 ∷ 0x11 ∷ 0x04 ∷ 0x0F ∷ 0x30 ∷ 0x0D ∷ 0x30
    ∷ 0x0B ∷ 0xA0 ∷ 0x03 ∷ 0x02 ∷ 0x01 ∷ 0x12 ∷ 0xA1 ∷ 0x04 ∷ 0x1B ∷ 0x02 ∷ 0x52 ∷ 0x61 ∷ 0x30 ∷ 0x09 ∷ 0xA1 ∷ 0x03
    ∷ 0x02 ∷ 0x01 ∷ 0x02 ∷ 0xA2 ∷ 0x02 ∷ 0x04 ∷ 0x00 ∷ []
unfolding method_data_bytes method_data key_info_bytes element length_octets integer_content natural_octets
salted key kvno = refl

-- worked: the same, where the realm accepts certificates
salted_anchored : (key : Bytes) (kvno : ℕ)
    → method_data_bytes true (one_key Aes256CtsHmacSha196 key kvno (Some (codes "Ra")))
    ≡ 0x30 ∷ 0x30 ∷ 0x30 ∷ 0x18 ∷ 0xA1 ∷ 0x03 ∷ 0x02 ∷ 0x01 ∷ 0x13 ∷ 0xA2 ∷ 0x11 ∷ 0x04 ∷ 0x0F ∷ 0x30 ∷ 0x0D ∷ 0x30
    ∷ 0x0B ∷ 0xA0 ∷ 0x03 ∷ 0x02 ∷ 0x01 ∷ 0x12 ∷ 0xA1 ∷ 0x04 ∷ 0x1B ∷ 0x02 ∷ 0x52 ∷ 0x61 ∷ 0x30 ∷ 0x09 ∷ 0xA1 ∷ 0x03
    ∷ 0x02 ∷ 0x01 ∷ 0x02 ∷ 0xA2 ∷ 0x02 ∷ 0x04 ∷ 0x00 ∷ 0x30 ∷ 0x09 ∷ 0xA1 ∷ 0x03 ∷ 0x02 ∷ 0x01 ∷ 0x10 ∷ 0xA2 ∷ 0x02 ∷ 0x04 ∷ 0x00 ∷ []
unfolding method_data_bytes method_data key_info_bytes element length_octets integer_content natural_octets
salted_anchored key kvno = refl
