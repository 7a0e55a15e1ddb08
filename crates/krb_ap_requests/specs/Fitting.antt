-- Which choices can be written: their etypes and confounders fit the keys' suites (RFC 3961, section 5.3).
use Rattle.std.specs.Prelude.{◌≡◌, ℕ, ℤ, true, length}
use Rattle.asn1_der.specs.Tree.{IsWhole, Tree, der}
use Rattle.picky_asn1.specs.Bytes.{Bytes}
use Rattle.picky_asn1.specs.Numbers.{is_number}
use Rattle.block_ciphers.specs.Bytes.{IsBytes}
use Rattle.krb_crypto.specs.declared.suite.CipherSuite.{CipherSuite}
use Rattle.krb_crypto.specs.Suites.{cipher_confounder_size, cipher_key_size, cipher_number}
use Rattle.krb_messages.specs.declared.data_types.authenticator.AuthenticatorInner.{AuthenticatorInner}
use Rattle.krb_messages.specs.declared.data_types.enc_ticket_part.EncTicketPartInner.{EncTicketPartInner}
use Rattle.krb_messages.specs.Messages.{ap_req_tree, authenticator_tree, enc_ticket_part_tree}
use Rattle.krb_ap_requests.specs.Presents.{Choice, request_of}

-- the etype is a suite's, key and confounder have that suite's lengths, and the value has an encoding
pub record FitsSuite {T : Type 0} (tree : T → Tree) (etype : ℤ) (key confounder : Bytes) (value : T) : Type 0 where
  pub suite : CipherSuite
  pub numbered : is_number (cipher_number suite) etype ≡ true
  pub key_sized : length key ≡ cipher_key_size suite
  pub key_bytes : IsBytes key
  pub confounder_sized : length confounder ≡ cipher_confounder_size suite
  pub confounder_bytes : IsBytes confounder
  pub whole : IsWhole (tree value)
  pub encoded : IsBytes (der (tree value))

-- etype, key and confounder of the ticket's part fit one suite, and so do those of the authenticator, under the session key in that
-- part; the request has an encoding whatever the two ciphertexts are
pub record IsFitting (key : Bytes) (choice : Choice) : Type 0 where
  pub part : FitsSuite {T = EncTicketPartInner} enc_ticket_part_tree choice.outer.part_etype key choice.part_confounder choice.part
  pub authenticator : FitsSuite {T = AuthenticatorInner} authenticator_tree choice.outer.etype choice.part.key.0.key_value.0 choice.confounder choice.authenticator
  pub outer : (part_cipher cipher : Bytes) → IsWhole (ap_req_tree (request_of choice.outer part_cipher cipher))
