-- What is in the AP request of a TGS request, and in what is sealed there, is as short as that.
use Rattle.std.proofs.Common.{◌≡◌, ℕ, List, Some, subst}
use Rattle.std.specs.Option.{option_map}
use Rattle.asn1_der.specs.Tagged.{tagged_tree}
use Rattle.asn1_der.specs.Tree.{Tree, wrapped}
use Rattle.krb_messages.specs.Trees.{encrypted_data_tree}
use Rattle.krb_messages.specs.declared.data_types.authenticator.AuthenticatorInner.{AuthenticatorInner}
use Rattle.krb_messages.specs.declared.data_types.checksum.Checksum.{Checksum}
use Rattle.krb_messages.specs.declared.data_types.enc_ticket_part.EncTicketPartInner.{EncTicketPartInner}
use Rattle.krb_messages.specs.declared.data_types.encrypted_data.EncryptedData.{EncryptedData}
use Rattle.krb_messages.specs.declared.data_types.encryption_key.EncryptionKey.{EncryptionKey}
use Rattle.krb_messages.specs.contracts.data_types.checksum.ChecksumTagged.TheImpl as checksum_impl
use Rattle.krb_messages.specs.Messages.{IsApReq, ap_req_tree, authenticator_tree, enc_ticket_part_tree}
use Rattle.krb_messages.specs.declared.messages.ap_req.ApReqInner.{ApReqInner}
use Rattle.krb_kdc_exchanges.proofs.Short.{Fits, IsShort, behind_optional, content_of, head, in_tag, inside, tail}
use Rattle.krb_kdc_exchanges.proofs.PartTrees.{encryption_key_tree, integer_tree, principal_name_tree}
use Rattle.krb_kdc_exchanges.proofs.RequestTrees.{in_optional}

abbrev checksum_tree : Checksum → Tree
checksum_tree = tagged_tree 48 checksum_impl.ghosts.row_tree checksum_impl.ghosts.row_of

cipher_short : (n : ℕ) (encrypted : EncryptedData) → Fits n (encrypted_data_tree encrypted) → IsShort n encrypted.cipher.0
cipher_short n encrypted x =
    let from_cipher = behind_optional n (λ tagged. wrapped 161 (integer_tree tagged.0)) encrypted.kvno.0 _ (tail n _ _ (inside n 48 _ x)) in
    content_of n 4 encrypted.cipher.0 (in_tag n 162 _ (head n _ _ from_cipher))

-- the bytes of an AP request that are short, as its tree
pub request_fits : (n : ℕ) (bytes : List ℕ) (ap_req : ApReqInner) → IsApReq bytes ap_req → IsShort n bytes → Fits n (ap_req_tree ap_req)
request_fits n bytes ap_req is x = record { written = subst (IsShort n) is.1 x }

module _ (n : ℕ) (ap_req : ApReqInner) (x : Fits n (ap_req_tree ap_req)) where
  -- the ticket's ciphertext
  pub ticket_short : IsShort n ap_req.ticket.0.0.enc_part.0.cipher.0
  ticket_short =
      let from_ticket = tail n _ _ (tail n _ _ (tail n _ _ (inside n 48 _ (in_tag n 110 _ x)))) in
      let fields = inside n 48 _ (in_tag n 97 _ (in_tag n 163 _ (head n _ _ from_ticket))) in
      cipher_short n ap_req.ticket.0.0.enc_part.0 (in_tag n 163 _ (head n _ _ (tail n _ _ (tail n _ _ (tail n _ _ fields)))))

  -- and the authenticator's
  pub authenticator_short : IsShort n ap_req.authenticator.0.cipher.0
  authenticator_short =
      let from_ticket = tail n _ _ (tail n _ _ (tail n _ _ (inside n 48 _ (in_tag n 110 _ x)))) in
      cipher_short n ap_req.authenticator.0 (in_tag n 164 _ (head n _ _ (tail n _ _ from_ticket)))

-- the client's name in a ticket's part
pub part_name_fits : (n : ℕ) (part : EncTicketPartInner) → Fits n (enc_ticket_part_tree part) → Fits n (principal_name_tree part.cname.0)
part_name_fits n part x = in_tag n 163 _ (head n _ _ (tail n _ _ (tail n _ _ (tail n _ _ (inside n 48 _ (in_tag n 99 _ x))))))

-- the subkey in an authenticator
pub subkey_short : (n : ℕ) (authenticator : AuthenticatorInner) (subkey : EncryptionKey) → Fits n (authenticator_tree authenticator)
    → option_map (λ tagged. tagged.0) authenticator.subkey.0 ≡ Some subkey → IsShort n subkey.key_value.0
subkey_short n authenticator subkey x e =
    let from_sum = tail n _ _ (tail n _ _ (tail n _ _ (inside n 48 _ (in_tag n 98 _ x)))) in
    let from_time = behind_optional n (λ tagged. wrapped 163 (checksum_tree tagged.0)) authenticator.cksum.0 _ from_sum in
    let key = in_optional n 166 encryption_key_tree (λ tagged. tagged.0) authenticator.subkey.0 _ subkey e (tail n _ _ (tail n _ _ from_time)) in
    content_of n 4 subkey.key_value.0 (in_tag n 161 _ (head n _ _ (tail n _ _ (inside n 48 _ key))))
