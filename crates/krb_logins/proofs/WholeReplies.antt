-- The replies of realms can be written: nothing is missing in their trees, nor in those of their parts.
use Rattle.std.proofs.Common.{◌≡◌, true, Option, None, Some, refl}
use Rattle.asn1_der.specs.Tree.{IsWhole, Writes, leaf}
use Rattle.asn1_der.proofs.Spelling.{whole-wrapped}
use Rattle.asn1_leaves.specs.CharSets.{is_general_string}
use Rattle.picky_asn1.specs.Bytes.{Bytes}
use Rattle.krb_messages.specs.Names.{components}
use Rattle.krb_messages.specs.declared.data_types.encrypted_data.EncryptedData.{EncryptedData}
use Rattle.krb_messages.specs.MessageTrees.{enc_kdc_rep_part_inner_tree, kdc_rep_inner_tree}
use Rattle.krb_tickets.specs.Grant.{GrantRecord}
use Rattle.krb_tickets.specs.declared.reply.Exchange.{Exchange}
use Rattle.krb_tickets.specs.declared.reply.Exchange.TheVariants.{As, Tgs}
use Rattle.krb_tickets.specs.Parts.{kdc_reply_of, reply_part, ticket_of}
use Rattle.krb_tickets.specs.Sealed.{kdc_reply_bytes, kdc_reply_tree, reply_part_bytes, reply_part_tree}
use Rattle.krb_logins.proofs.Names.{are_texts}
use Rattle.krb_logins.proofs.WholeRequests.{whole_addresses, whole_encrypted, whole_text, whole_texts, whole_till}

-- the names of a grant can be written
pub record AreTexts (grant : GrantRecord) : Type 0 where
  pub realm : is_general_string grant.realm ≡ true
  pub client : are_texts (components grant.client) ≡ true
  pub service : are_texts (components grant.service) ≡ true

-- what stands inside their tags
without_padata : (exchange : Exchange) (grant : GrantRecord) (ticket reply : EncryptedData) → AreTexts grant
    → IsWhole (kdc_rep_inner_tree (kdc_reply_of exchange None grant (ticket_of grant ticket) reply))
unfolding kdc_reply_of ticket_of
without_padata exchange grant ticket reply texts = (
  (tt, tt),
  (
    (tt, tt),
    (
      whole-wrapped 163 (leaf (is_general_string grant.realm) 27 grant.realm) (whole_text 27 grant.realm texts.realm),
      (
        (((tt, tt), ((whole_texts 27 (components grant.client) texts.client, tt), tt)), tt),
        (
          (
            (
              (
                (tt, tt),
                (
                  whole-wrapped 161 (leaf (is_general_string grant.realm) 27 grant.realm) (whole_text 27 grant.realm texts.realm),
                  ((((tt, tt), ((whole_texts 27 (components grant.service) texts.service, tt), tt)), tt), ((whole_encrypted ticket, tt), tt)),
                ),
              ),
              tt,
            ),
            tt,
          ),
          ((whole_encrypted reply, tt), tt),
        ),
      ),
    ),
  ),
)

inner_reply : (exchange : Exchange) (pk_as_rep : Option Bytes) (grant : GrantRecord) (ticket reply : EncryptedData) → AreTexts grant
    → IsWhole (kdc_rep_inner_tree (kdc_reply_of exchange pk_as_rep grant (ticket_of grant ticket) reply))
unfolding kdc_reply_of
inner_reply exchange None grant ticket reply texts = without_padata exchange grant ticket reply texts
inner_reply exchange (Some value) grant ticket reply texts =
    let others = without_padata exchange grant ticket reply texts in
    (others.0, (others.1.0, (((((tt, tt), ((tt, tt), tt)), tt), tt), others.1.1)))

inner_part : (grant : GrantRecord) → AreTexts grant → IsWhole (enc_kdc_rep_part_inner_tree (reply_part grant))
unfolding reply_part
inner_part grant texts = (
  (((tt, tt), ((tt, tt), tt)), tt),
  (
    ((((tt, tt), ((tt, tt), tt)), tt), tt),
    (
      (tt, tt),
      (
        (tt, tt),
        (
          (tt, tt),
          (
            (tt, tt),
            (
              (tt, tt),
              whole_till _ (
                whole-wrapped 169 (leaf (is_general_string grant.realm) 27 grant.realm) (whole_text 27 grant.realm texts.realm),
                ((((tt, tt), ((whole_texts 27 (components grant.service) texts.service, tt), tt)), tt), whole_addresses 171 grant.addresses),
              ) grant.renew_till,
            ),
          ),
        ),
      ),
    ),
  ),
)

whole_reply : (exchange : Exchange) (pk_as_rep : Option Bytes) (grant : GrantRecord) (ticket reply : EncryptedData) → AreTexts grant
    → IsWhole (kdc_reply_tree exchange (kdc_reply_of exchange pk_as_rep grant (ticket_of grant ticket) reply))
whole_reply As pk_as_rep grant ticket reply texts = whole-wrapped 107 (kdc_rep_inner_tree (kdc_reply_of As pk_as_rep grant (ticket_of grant ticket) reply)) (inner_reply As pk_as_rep grant ticket reply texts)
whole_reply Tgs pk_as_rep grant ticket reply texts = whole-wrapped 109 (kdc_rep_inner_tree (kdc_reply_of Tgs pk_as_rep grant (ticket_of grant ticket) reply)) (inner_reply Tgs pk_as_rep grant ticket reply texts)

whole_part : (exchange : Exchange) (grant : GrantRecord) → AreTexts grant → IsWhole (reply_part_tree exchange (reply_part grant))
whole_part As grant texts = whole-wrapped 121 (enc_kdc_rep_part_inner_tree (reply_part grant)) (inner_part grant texts)
whole_part Tgs grant texts = whole-wrapped 122 (enc_kdc_rep_part_inner_tree (reply_part grant)) (inner_part grant texts)

-- the part under the reply key
pub writes_part : (exchange : Exchange) (grant : GrantRecord) → AreTexts grant → Writes (reply_part_tree exchange) (reply_part grant) (reply_part_bytes exchange (reply_part grant))
unfolding reply_part_bytes
writes_part exchange grant texts = (whole_part exchange grant texts, refl)

-- the reply
pub reply_written : (exchange : Exchange) (pk_as_rep : Option Bytes) (grant : GrantRecord) (ticket reply : EncryptedData) (bytes : Bytes) → AreTexts grant
    → bytes ≡ kdc_reply_bytes exchange (kdc_reply_of exchange pk_as_rep grant (ticket_of grant ticket) reply)
    → Writes (kdc_reply_tree exchange) (kdc_reply_of exchange pk_as_rep grant (ticket_of grant ticket) reply) bytes
unfolding kdc_reply_bytes
reply_written exchange pk_as_rep grant ticket reply bytes texts e = (whole_reply exchange pk_as_rep grant ticket reply texts, e)
