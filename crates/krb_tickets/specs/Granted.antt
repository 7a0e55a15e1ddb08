-- The reply that grants a ticket (RFC 4120, sections 3.1.3, 3.3.3, 5.4.2).
use Rattle.std.specs.Prelude.{◌≡◌}
use Rattle.std.proofs.Common.{ap, sym, ◌∙◌}
use Rattle.picky_asn1.specs.Bytes.{Bytes}
use Rattle.krb_crypto.specs.Suites.{cipher_confounder_size}
use Rattle.krb_realm_accounts.specs.Account.{AccountRecord}
use Rattle.krb_constants.specs.KeyUsages.{key_usage}
use Rattle.krb_constants.specs.declared.key_usages.TheConstants.{TICKET_REP}
use Rattle.krb_messages.specs.declared.data_types.encrypted_data.EncryptedData.{EncryptedData}
use Rattle.krb_messages.specs.RandomBytes.{Random, reply_confounder, ticket_confounder}
use Rattle.krb_tickets.specs.Grant.{GrantRecord}
use Rattle.krb_tickets.specs.Parts.{kdc_reply_of, reply_part, ticket_of, ticket_part}
use Rattle.krb_tickets.specs.Sealed.{IsSealedData, IsSealedReply, kdc_reply_bytes, reply_part_bytes, sole_sealed_data, sole_sealed_reply, ticket_part_bytes}
use Rattle.krb_tickets.specs.ReplyKeys.{ReplyKeyRecord}

-- the bytes are the encoding of the reply in which the ticket's part is encrypted under the service's key (key usage 2; RFC 4120,
-- section 7.5.1), and the reply's own part under the reply key
pub record IsTicketReply (grant : GrantRecord) (under : ReplyKeyRecord) (service : AccountRecord) (words : Random) (bytes : Bytes) : Type 0 where
  pub ticket_data : EncryptedData
  pub ticket_sealed : IsSealedData service (key_usage TICKET_REP) (ticket_confounder (cipher_confounder_size service.suite) words) (ticket_part_bytes (ticket_part grant)) ticket_data
  pub reply_data : EncryptedData
  pub reply_sealed : IsSealedReply under (reply_confounder (cipher_confounder_size under.suite) words) (reply_part_bytes under.exchange (reply_part grant)) reply_data
  pub encoding : bytes ≡ kdc_reply_bytes under.exchange (kdc_reply_of under.exchange under.pk_as_rep grant (ticket_of grant ticket_data) reply_data)

-- a grant has one such reply at most
pub sole_ticket_reply : (grant : GrantRecord) (under : ReplyKeyRecord) (service : AccountRecord) (words : Random) (a b : Bytes)
    → IsTicketReply grant under service words a → IsTicketReply grant under service words b → a ≡ b
sole_ticket_reply grant under service words a b x y =
    let ticket = sole_sealed_data service (key_usage TICKET_REP) (ticket_confounder (cipher_confounder_size service.suite) words) (ticket_part_bytes (ticket_part grant)) x.ticket_data y.ticket_data x.ticket_sealed y.ticket_sealed in
    let reply = sole_sealed_reply under (reply_confounder (cipher_confounder_size under.suite) words) (reply_part_bytes under.exchange (reply_part grant)) x.reply_data y.reply_data x.reply_sealed y.reply_sealed in
    x.encoding
    ∙ ap (λ d. kdc_reply_bytes under.exchange (kdc_reply_of under.exchange under.pk_as_rep grant (ticket_of grant d) x.reply_data)) ticket
    ∙ ap (λ d. kdc_reply_bytes under.exchange (kdc_reply_of under.exchange under.pk_as_rep grant (ticket_of grant y.ticket_data) d)) reply
    ∙ sym y.encoding
