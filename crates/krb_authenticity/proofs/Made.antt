-- By its key usage a ciphertext that parties made is a ticket, an encrypted timestamp, an authenticator to this or that service, or the part
-- of a reply.
use Rattle.std.proofs.Common.{◌≡◌, ℕ, true, false, List, inl, inr, ap, sym, subst, ◌∙◌, refl, arith}
use Rattle.std.proofs.lemmas.Bool.{false≢true}
use Rattle.picky_asn1.specs.Bytes.{Bytes}
use Rattle.krb_crypto.specs.declared.suite.CipherSuite.{CipherSuite}
use Rattle.krb_kdc_exchanges.specs.Rows.{PkinitRows}
use Rattle.krb_authenticity.specs.Among.{IsAmong}
use Rattle.krb_authenticity.specs.Ciphertexts.{CiphertextRecord, IsApAuthenticatorOf, IsApReplyOf, IsMade, IsReplyPartOf, IsTgsAuthenticatorOf, IsTicketOf, IsTimestampOf, ap_reply_under, authenticator_under, granting_under, ticket_under, timestamp_under}
use Rattle.krb_authenticity.specs.Parties.{AnswerRecord, ExchangeRecord, FirstRequest, FurtherRequest, SentRecord, ServiceRequest}
use Rattle.krb_authenticity.proofs.Usages.{is_for_reply, no_reply}

module _ (rows : PkinitRows) (exchanges : List ExchangeRecord) (sent : SentRecord) (suite : CipherSuite) (key cipher : Bytes) where
  pub ticket_made : IsMade rows exchanges sent (ticket_under suite key cipher)
      → (exchange : ExchangeRecord) × IsAmong exchange exchanges × IsTicketOf rows exchange (ticket_under suite key cipher)
  ticket_made (inl x) = x
  ticket_made (inr (inl x)) = let e : 2 ≡ 1 = ap (λ (k : CiphertextRecord). k.usage) x.2.is in absurd (omega (arith, e))
  ticket_made (inr (inr (inl x))) = let e : 2 ≡ 7 = ap (λ (k : CiphertextRecord). k.usage) x.2.is in absurd (omega (arith, e))
  ticket_made (inr (inr (inr (inl x)))) = let e : 2 ≡ 11 = ap (λ (k : CiphertextRecord). k.usage) x.2.is in absurd (omega (arith, e))
  ticket_made (inr (inr (inr (inr (inl x))))) = absurd (no_reply rows x.0 x.2.grant x.2.service x.2.granted 2 refl (ap (λ (k : CiphertextRecord). k.usage) x.2.is))
  ticket_made (inr (inr (inr (inr (inr x))))) = let e : 2 ≡ 12 = ap (λ (k : CiphertextRecord). k.usage) x.2.is in absurd (omega (arith, e))

  pub timestamp_made : IsMade rows exchanges sent (timestamp_under suite key cipher)
      → (request : FirstRequest) × IsAmong request sent.first × IsTimestampOf request (timestamp_under suite key cipher)
  timestamp_made (inl x) = let e : 1 ≡ 2 = ap (λ (k : CiphertextRecord). k.usage) x.2.is in absurd (omega (arith, e))
  timestamp_made (inr (inl x)) = x
  timestamp_made (inr (inr (inl x))) = let e : 1 ≡ 7 = ap (λ (k : CiphertextRecord). k.usage) x.2.is in absurd (omega (arith, e))
  timestamp_made (inr (inr (inr (inl x)))) = let e : 1 ≡ 11 = ap (λ (k : CiphertextRecord). k.usage) x.2.is in absurd (omega (arith, e))
  timestamp_made (inr (inr (inr (inr (inl x))))) = absurd (no_reply rows x.0 x.2.grant x.2.service x.2.granted 1 refl (ap (λ (k : CiphertextRecord). k.usage) x.2.is))
  timestamp_made (inr (inr (inr (inr (inr x))))) = let e : 1 ≡ 12 = ap (λ (k : CiphertextRecord). k.usage) x.2.is in absurd (omega (arith, e))

  pub granting_made : IsMade rows exchanges sent (granting_under suite key cipher)
      → (request : FurtherRequest) × IsAmong request sent.further × IsTgsAuthenticatorOf request (granting_under suite key cipher)
  granting_made (inl x) = let e : 7 ≡ 2 = ap (λ (k : CiphertextRecord). k.usage) x.2.is in absurd (omega (arith, e))
  granting_made (inr (inl x)) = let e : 7 ≡ 1 = ap (λ (k : CiphertextRecord). k.usage) x.2.is in absurd (omega (arith, e))
  granting_made (inr (inr (inl x))) = x
  granting_made (inr (inr (inr (inl x)))) = let e : 7 ≡ 11 = ap (λ (k : CiphertextRecord). k.usage) x.2.is in absurd (omega (arith, e))
  granting_made (inr (inr (inr (inr (inl x))))) = absurd (no_reply rows x.0 x.2.grant x.2.service x.2.granted 7 refl (ap (λ (k : CiphertextRecord). k.usage) x.2.is))
  granting_made (inr (inr (inr (inr (inr x))))) = let e : 7 ≡ 12 = ap (λ (k : CiphertextRecord). k.usage) x.2.is in absurd (omega (arith, e))

  pub authenticator_made : IsMade rows exchanges sent (authenticator_under suite key cipher)
      → (request : ServiceRequest) × IsAmong request sent.presented × IsApAuthenticatorOf request (authenticator_under suite key cipher)
  authenticator_made (inl x) = let e : 11 ≡ 2 = ap (λ (k : CiphertextRecord). k.usage) x.2.is in absurd (omega (arith, e))
  authenticator_made (inr (inl x)) = let e : 11 ≡ 1 = ap (λ (k : CiphertextRecord). k.usage) x.2.is in absurd (omega (arith, e))
  authenticator_made (inr (inr (inl x))) = let e : 11 ≡ 7 = ap (λ (k : CiphertextRecord). k.usage) x.2.is in absurd (omega (arith, e))
  authenticator_made (inr (inr (inr (inl x)))) = x
  authenticator_made (inr (inr (inr (inr (inl x))))) = absurd (no_reply rows x.0 x.2.grant x.2.service x.2.granted 11 refl (ap (λ (k : CiphertextRecord). k.usage) x.2.is))
  authenticator_made (inr (inr (inr (inr (inr x))))) = let e : 11 ≡ 12 = ap (λ (k : CiphertextRecord). k.usage) x.2.is in absurd (omega (arith, e))

  pub ap_reply_made : IsMade rows exchanges sent (ap_reply_under suite key cipher)
      → (answer : AnswerRecord) × IsAmong answer sent.answered × IsApReplyOf answer (ap_reply_under suite key cipher)
  ap_reply_made (inl x) = let e : 12 ≡ 2 = ap (λ (k : CiphertextRecord). k.usage) x.2.is in absurd (omega (arith, e))
  ap_reply_made (inr (inl x)) = let e : 12 ≡ 1 = ap (λ (k : CiphertextRecord). k.usage) x.2.is in absurd (omega (arith, e))
  ap_reply_made (inr (inr (inl x))) = let e : 12 ≡ 7 = ap (λ (k : CiphertextRecord). k.usage) x.2.is in absurd (omega (arith, e))
  ap_reply_made (inr (inr (inr (inl x)))) = let e : 12 ≡ 11 = ap (λ (k : CiphertextRecord). k.usage) x.2.is in absurd (omega (arith, e))
  ap_reply_made (inr (inr (inr (inr (inl x))))) = absurd (no_reply rows x.0 x.2.grant x.2.service x.2.granted 12 refl (ap (λ (k : CiphertextRecord). k.usage) x.2.is))
  ap_reply_made (inr (inr (inr (inr (inr x))))) = x

-- the part of a KDC's reply is for a usage of such parts alone
module _ (rows : PkinitRows) (exchanges : List ExchangeRecord) (sent : SentRecord) (c : CiphertextRecord) where
  other : (usage : ℕ) → is_for_reply usage ≡ false → c.usage ≡ usage → is_for_reply c.usage ≡ true → ⊥
  other usage is e own = false≢true (sym (subst (λ u. is_for_reply u ≡ false) (sym e) is) ∙ own)

  pub reply_part_made : is_for_reply c.usage ≡ true → IsMade rows exchanges sent c → (exchange : ExchangeRecord) × IsAmong exchange exchanges × IsReplyPartOf rows exchange c
  reply_part_made own (inl x) = absurd (other 2 refl (ap (λ (k : CiphertextRecord). k.usage) x.2.is) own)
  reply_part_made own (inr (inl x)) = absurd (other 1 refl (ap (λ (k : CiphertextRecord). k.usage) x.2.is) own)
  reply_part_made own (inr (inr (inl x))) = absurd (other 7 refl (ap (λ (k : CiphertextRecord). k.usage) x.2.is) own)
  reply_part_made own (inr (inr (inr (inl x)))) = absurd (other 11 refl (ap (λ (k : CiphertextRecord). k.usage) x.2.is) own)
  reply_part_made own (inr (inr (inr (inr (inl x))))) = x
  reply_part_made own (inr (inr (inr (inr (inr x))))) = absurd (other 12 refl (ap (λ (k : CiphertextRecord). k.usage) x.2.is) own)
