-- What an AP-REQ is made of: its fields, its encrypted parts, and the confounder of each (RFC 4120, sections 3.2.2, 5.5.1; RFC 3961, section
-- 5.3).
use Rattle.std.specs.Prelude.{◌≡◌, ℕ, true, Option, ℤ}
use Rattle.std.specs.Int.{cast_unsigned, w32}
use Rattle.std.specs.Option.{option_map}
use Rattle.asn1_der.specs.Tree.{Tree, Writes}
use Rattle.picky_asn1.specs.BitString.{Bits}
use Rattle.picky_asn1.specs.Bytes.{Bytes}
use Rattle.picky_asn1.specs.Numbers.{is_number}
use Rattle.krb_constants.specs.declared.key_usages.TheConstants.{AP_REQ_AUTHENTICATOR, TICKET_REP}
use Rattle.krb_crypto.specs.declared.suite.CipherSuite.{CipherSuite}
use Rattle.krb_crypto.specs.Sealing.{IsSealedBy}
use Rattle.krb_crypto.specs.Suites.{cipher_number}
use Rattle.krb_messages.specs.declared.data_types.authenticator.AuthenticatorInner.{AuthenticatorInner}
use Rattle.krb_messages.specs.declared.data_types.encrypted_data.EncryptedData.{EncryptedData}
use Rattle.krb_messages.specs.declared.data_types.enc_ticket_part.EncTicketPartInner.{EncTicketPartInner}
use Rattle.krb_messages.specs.declared.data_types.principal_name.PrincipalName.{PrincipalName}
use Rattle.krb_messages.specs.declared.messages.ap_req.ApReqInner.{ApReqInner}
use Rattle.krb_messages.specs.Messages.{IsApReq, authenticator_tree, enc_ticket_part_tree}

-- the fields of a request and of its ticket, but for the two ciphertexts
pub record Outer : Type 0 where
  pub pvno : ℤ
  pub msg_type : ℤ
  pub options : Bits
  pub tkt_vno : ℤ
  pub realm : Bytes
  pub service : PrincipalName
  pub part_etype : ℤ
  pub part_kvno : Option ℤ
  pub etype : ℤ
  pub kvno : Option ℤ

-- what a client chooses: the outer fields, the ticket's part, the authenticator, and the confounder of each
pub record Choice : Type 0 where
  pub outer : Outer
  pub part : EncTicketPartInner
  pub part_confounder : Bytes
  pub authenticator : AuthenticatorInner
  pub confounder : Bytes

abbrev pub encrypted : ℤ → Option ℤ → Bytes → EncryptedData
encrypted etype kvno cipher = record {
  etype = record { 0 = etype };
  kvno = record { 0 = option_map (λ number. record { 0 = number }) kvno };
  cipher = record { 0 = cipher };
}

-- the request with these outer fields and these ciphertexts
abbrev pub request_of : Outer → Bytes → Bytes → ApReqInner
request_of outer part_cipher cipher = record {
  pvno = record { 0 = outer.pvno };
  msg_type = record { 0 = outer.msg_type };
  ap_options = record { 0 = outer.options };
  ticket = record {
    0 = record {
      0 = record {
        tkt_vno = record { 0 = outer.tkt_vno };
        realm = record { 0 = outer.realm };
        sname = record { 0 = outer.service };
        enc_part = record { 0 = encrypted outer.part_etype outer.part_kvno part_cipher };
      };
    };
  };
  authenticator = record { 0 = encrypted outer.etype outer.kvno cipher };
}

-- the value's encoding is encrypted to this ciphertext behind the confounder, by the suite whose number is the etype
pub record SealsTo {T : Type 0} (tree : T → Tree) (etype : ℤ) (key : Bytes) (usage : ℕ) (confounder : Bytes) (value : T) (cipher : Bytes) : Type 0 where
  pub suite : CipherSuite
  pub numbered : is_number (cipher_number suite) etype ≡ true
  pub plain : Bytes
  pub writes : Writes tree value plain
  pub sealed : IsSealedBy suite key usage confounder plain cipher

-- the bytes are the one encoding of an AP request with these outer fields, whose ticket seals the part under the
-- service's key, and whose authenticator is sealed under the part's key (RFC 4120, section 7.5.1)
pub record Presents (key : Bytes) (choice : Choice) (message : Bytes) : Type 0 where
  pub part_cipher : Bytes
  pub cipher : Bytes
  pub writes : IsApReq message (request_of choice.outer part_cipher cipher)
  pub part : SealsTo {T = EncTicketPartInner} enc_ticket_part_tree choice.outer.part_etype key (cast_unsigned w32 TICKET_REP) choice.part_confounder choice.part part_cipher
  pub authenticator : SealsTo {T = AuthenticatorInner} authenticator_tree choice.outer.etype choice.part.key.0.key_value.0 (cast_unsigned w32 AP_REQ_AUTHENTICATOR) choice.confounder choice.authenticator cipher
