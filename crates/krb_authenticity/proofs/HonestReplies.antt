-- What the realm and services send is unforged for the client that it comes to.
use Rattle.std.proofs.Common.{◌≡◌, List, refl, sym, ap, subst, ◌∙◌, inl, inr}
use Rattle.asn1_der.specs.Tree.{IsWhole, Writes}
use Rattle.picky_asn1.specs.Bytes.{Bytes}
use Rattle.krb_crypto.specs.Keys.{KeyRecord}
use Rattle.krb_messages.specs.Messages.{IsApRep, IsAsRep, IsTgsRep, ap_rep_tree, sole_ap_rep, sole_as_rep, sole_tgs_rep}
use Rattle.krb_messages.specs.declared.messages.ap_rep.ApRepInner.{ApRepInner}
use Rattle.krb_messages.specs.declared.messages.kdc_rep.KdcRep.{KdcRep}
use Rattle.krb_realm_accounts.specs.Account.{AccountRecord}
use Rattle.krb_tickets.specs.Grant.{GrantRecord}
use Rattle.krb_tickets.specs.Parts.{kdc_reply_of, ticket_of}
use Rattle.krb_tickets.specs.Sealed.{kdc_reply_tree}
use Rattle.krb_tickets.specs.declared.reply.Exchange.{Exchange}
use Rattle.krb_tickets.specs.declared.reply.Exchange.TheVariants.{As, Tgs}
use Rattle.krb_kdc_exchanges.specs.Rows.{PkinitRows}
use Rattle.krb_client.specs.Asked.{ApAskedRecord, TgsAskedRecord}
use Rattle.krb_service.specs.ApReply.{ap_rep_of}
use Rattle.krb_logins.proofs.ReplyTaken.{whole_reply}
use Rattle.krb_logins.proofs.WholeReplies.{reply_written}
use Rattle.krb_authenticity.specs.Ciphertexts.{CiphertextRecord, IsUnforged, OpensApReply, OpensFirstReply, OpensFurtherReply, ap_reply_under}
use Rattle.krb_authenticity.specs.Grants.{IsGranted}
use Rattle.krb_authenticity.specs.Honest.{IsApReplyHonest, IsFirstReplyHonest, IsFurtherReplyHonest}
use Rattle.krb_authenticity.specs.Parties.{AnswerRecord, ExchangeRecord, IsAnswerSent, SentRecord, session_of}
use Rattle.krb_authenticity.proofs.ReplyParts.{sealed_part}
use Rattle.krb_authenticity.proofs.Tickets.{granted_texts}
use Rattle.krb_authenticity.proofs.Usages.{of_first, of_further}

module _ (rows : PkinitRows) (exchange : ExchangeRecord) (grant : GrantRecord) (account : AccountRecord) (is : IsGranted rows exchange grant account) where
  -- the reply as it is read
  abbrev own_reply : Exchange → KdcRep
  own_reply kind = kdc_reply_of kind is.under.pk_as_rep grant (ticket_of grant is.replied.ticket_data) is.replied.reply_data

  written : Writes (kdc_reply_tree is.under.exchange) (own_reply is.under.exchange) exchange.reply
  written =
      reply_written is.under.exchange is.under.pk_as_rep grant is.replied.ticket_data is.replied.reply_data exchange.reply (granted_texts rows exchange grant account is) is.replied.encoding

  written_as : (kind : Exchange) → is.under.exchange ≡ kind → Writes (kdc_reply_tree kind) (own_reply kind) exchange.reply
  written_as kind same = subst (λ k. Writes (kdc_reply_tree k) (own_reply k) exchange.reply) same written

  own_cipher : (kind : Exchange) → (own_reply kind).enc_part.0.cipher.0 ≡ is.replied.reply_data.cipher.0
  unfolding kdc_reply_of
  own_cipher kind = refl

module _ (rows : PkinitRows) (exchanges : List ExchangeRecord) (sent : SentRecord) where
  pub first_reply_unforged : (under : KeyRecord) (message : Bytes) → IsFirstReplyHonest rows exchanges under message → (keys : List Bytes)
      → IsUnforged rows keys exchanges sent (OpensFirstReply under message)
  first_reply_unforged under message h keys c o kept =
      let kind = of_first rows h.exchange h.grant h.granted.under h.account h.first in
      let read = subst (λ b. IsAsRep b o.reply) h.bytes o.read in
      let same = sole_as_rep h.exchange.reply o.reply (own_reply rows h.exchange h.grant h.account h.granted As) read (written_as rows h.exchange h.grant h.account h.granted As kind.exchange) in
      let cipher = ap (λ (r : KdcRep). r.enc_part.0.cipher.0) same ∙ own_cipher rows h.exchange h.grant h.account h.granted As in
      let own : CiphertextRecord = record { suite = under.suite; key = under.bytes; usage = 3; cipher = o.reply.enc_part.0.cipher.0 } in
      let is : own ≡ sealed_part rows h.exchange h.grant h.account h.granted =
      λ i. record { suite = sym h.suite i; key = sym h.key i; usage = sym kind.usage i; cipher = cipher i } in
      inr (inr (inr (inr (inl (h.exchange, h.among, record { grant = h.grant; service = h.account; granted = h.granted; is = o.is ∙ is })))))

  pub further_reply_unforged : (asked : TgsAskedRecord) (message : Bytes) → IsFurtherReplyHonest rows exchanges asked message → (keys : List Bytes)
      → IsUnforged rows keys exchanges sent (OpensFurtherReply asked message)
  further_reply_unforged asked message h keys c o kept =
      let kind = of_further rows h.exchange h.grant h.granted.under h.account h.further in
      let read = subst (λ b. IsTgsRep b o.reply) h.bytes o.read in
      let same = sole_tgs_rep h.exchange.reply o.reply (own_reply rows h.exchange h.grant h.account h.granted Tgs) read (written_as rows h.exchange h.grant h.account h.granted Tgs kind.exchange) in
      let cipher = ap (λ (r : KdcRep). r.enc_part.0.cipher.0) same ∙ own_cipher rows h.exchange h.grant h.account h.granted Tgs in
      let own : CiphertextRecord = record { suite = asked.suite; key = asked.key; usage = 8; cipher = o.reply.enc_part.0.cipher.0 } in
      let is : own ≡ sealed_part rows h.exchange h.grant h.account h.granted =
      λ i. record { suite = sym h.suite i; key = sym h.key i; usage = sym h.usage i; cipher = cipher i } in
      inr (inr (inr (inr (inl (h.exchange, h.among, record { grant = h.grant; service = h.account; granted = h.granted; is = o.is ∙ is })))))

  -- the AP-REP as it is read
  answer_read : (answer : AnswerRecord) (is : IsAnswerSent answer) → IsApRep answer.bytes (ap_rep_of is.reply.part)
  answer_read answer is =
      (subst (λ part. IsWhole (ap_rep_tree (ap_rep_of part))) (sym is.reply.sealed.told) (whole_reply answer.presented.suite is.reply.sealed.cipher), is.reply.encoding)

  pub ap_reply_unforged : (asked : ApAskedRecord) (message : Bytes) → IsApReplyHonest sent asked message → (keys : List Bytes)
      → IsUnforged rows keys exchanges sent (OpensApReply asked message)
  ap_reply_unforged asked message h keys c o kept =
      let read = subst (λ b. IsApRep b o.reply) h.bytes o.read in
      let same = sole_ap_rep h.answer.bytes o.reply (ap_rep_of h.is_sent.reply.part) read (answer_read h.answer h.is_sent) in
      let cipher = ap (λ (r : ApRepInner). r.enc_part.0.cipher.0) same in
      let is : ap_reply_under asked.suite asked.key o.reply.enc_part.0.cipher.0 ≡ ap_reply_under h.answer.presented.suite (session_of h.answer.presented) h.is_sent.reply.part.cipher.0 =
      λ i. ap_reply_under (sym h.suite i) (sym h.key i) (cipher i) in
      inr (inr (inr (inr (inr (h.answer, h.among, record { sent = h.is_sent; is = o.is ∙ is })))))
