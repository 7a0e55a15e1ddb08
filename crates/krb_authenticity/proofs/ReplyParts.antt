-- The part of a KDC's reply that a client takes is that of a grant.
use Rattle.std.proofs.Common.{◌≡◌, ℕ, ◌++◌, true, ◌&&◌, List, Ok, get_or, refl, sym, ap, subst, ◌∙◌, inl, inr, arith}
use Rattle.std.proofs.lemmas.Bool.{and_parts}
use Rattle.std.specs.Prelude.{pos}
use Rattle.asn1_der.specs.Length.{element}
use Rattle.asn1_der.specs.Tree.{der}
use Rattle.picky_asn1.specs.Bytes.{Bytes}
use Rattle.picky_asn1.specs.Numbers.{is_number}
use Rattle.krb_crypto.specs.Keys.{KeyRecord}
use Rattle.krb_crypto.specs.Suites.{cipher_confounder_size, cipher_number, cipher_suites}
use Rattle.krb_crypto.specs.declared.suite.CipherSuite.{CipherSuite}
use Rattle.krb_crypto.proofs.AllSuites.{found_passes}
use Rattle.krb_crypto.proofs.SealingLemmas.{one_sealed, padded_front}
use Rattle.krb_messages.specs.Messages.{enc_as_rep_part-injective, enc_as_rep_part_tree, enc_tgs_rep_part-injective, enc_tgs_rep_part_tree}
use Rattle.krb_messages.specs.Names.{components, is_same_name, is_same_realm}
use Rattle.krb_messages.specs.RandomBytes.{reply_confounder}
use Rattle.krb_messages.specs.declared.data_types.encrypted_data.EncryptedData.{EncryptedData}
use Rattle.krb_messages.specs.declared.messages.enc_kdc_rep_part.EncKdcRepPart.{EncKdcRepPart}
use Rattle.krb_messages.specs.declared.messages.kdc_rep.KdcRep.{KdcRep}
use Rattle.krb_realm_accounts.specs.Account.{AccountRecord}
use Rattle.krb_tickets.specs.Answers.{is_answer}
use Rattle.krb_tickets.specs.Grant.{GrantRecord}
use Rattle.krb_tickets.specs.Keys.{is_key_of}
use Rattle.krb_tickets.specs.Opens.{Opens}
use Rattle.krb_tickets.specs.Parts.{reply_part}
use Rattle.krb_tickets.specs.Sealed.{reply_part_bytes, reply_part_tree}
use Rattle.krb_tickets.specs.declared.reply.Exchange.{Exchange}
use Rattle.krb_tickets.specs.declared.reply.Exchange.TheVariants.{As, Tgs}
use Rattle.krb_kdc_exchanges.specs.Rows.{PkinitRows}
use Rattle.krb_client.specs.AsReply.{IsAsPart, takes_as_reply}
use Rattle.krb_client.specs.Asked.{AsAskedRecord, TgsAskedRecord}
use Rattle.krb_client.specs.Client.{ClientRecord, CredentialRecord}
use Rattle.krb_client.specs.Means.{MeansRecord}
use Rattle.krb_client.specs.Taking.{IsTgsPart, starttime_of}
use Rattle.krb_client.specs.TgsReply.{takes_tgs_reply}
use Rattle.krb_logins.proofs.TakenParts.{IsFirstPart, IsPartTaken, first_taken_of, further_taken_of}
use Rattle.krb_logins.proofs.WholeReplies.{writes_part}
use Rattle.krb_authenticity.specs.Among.{IsAmong}
use Rattle.krb_authenticity.specs.Ciphertexts.{CiphertextRecord, IsReplyPartOf, IsUnforged, OpensFurtherReply, first_reply_under, further_reply_under}
use Rattle.krb_authenticity.specs.Grants.{IsFirst, IsFurther, IsGranted}
use Rattle.krb_authenticity.specs.Parties.{ExchangeRecord, SentRecord}
use Rattle.krb_authenticity.specs.Taken.{IsByFirst, IsByFurther, IsFirstReplyUnforged, IsOfGrantOf}
use Rattle.krb_authenticity.proofs.Made.{reply_part_made}
use Rattle.krb_authenticity.proofs.Opened.{OpensTo, number_is, one_opened, sealed_to, suite_of_number}
use Rattle.krb_authenticity.proofs.Tickets.{granted_texts}
use Rattle.krb_authenticity.proofs.Usages.{IsOfFirst, IsOfFurther, of_first, of_further}

-- what opens with the tag of an AS reply's part doesn't open with that of a TGS reply's
tags_apart : (number : ℕ) (key : Bytes) (usage : ℕ) (bytes : Bytes) (v w : EncKdcRepPart) → Opens {T = EncKdcRepPart} enc_as_rep_part_tree number key usage bytes v
    → Opens {T = EncKdcRepPart} enc_tgs_rep_part_tree number key usage bytes w → ⊥
unfolding element
tags_apart number key usage bytes v w x y =
    let text = (one_sealed number key usage x.conf x.plain y.conf y.plain bytes x.sealed y.sealed).1 in
    let first = padded_front x.sealed.0 x.plain in
    let second = padded_front x.sealed.0 y.plain in
    let joined : der (enc_as_rep_part_tree v) ++ first.0 ≡ der (enc_tgs_rep_part_tree w) ++ second.0 =
    ap (λ (front : List ℕ). front ++ first.0) (sym x.writes.1) ∙ sym first.1 ∙ text ∙ second.1 ∙ ap (λ (front : List ℕ). front ++ second.0) y.writes.1 in
    let octet : 121 ≡ 122 = ap (λ octets. get_or octets 0 0) joined in
    omega (arith, octet)

as_opens : (suite : CipherSuite) (key : Bytes) (encrypted : EncryptedData) (part : EncKdcRepPart) → IsAsPart suite key encrypted part
    → OpensTo {T = EncKdcRepPart} enc_as_rep_part_tree (first_reply_under suite key encrypted.cipher.0) part
unfolding IsAsPart
as_opens suite key encrypted part x = x.opens

tgs_opens : (suite : CipherSuite) (key : Bytes) (usage : ℕ) (encrypted : EncryptedData) (part : EncKdcRepPart) → IsTgsPart suite key usage encrypted part
    → Opens {T = EncKdcRepPart} enc_tgs_rep_part_tree (cipher_number suite) key usage encrypted.cipher.0 part
unfolding IsTgsPart
tgs_opens suite key usage encrypted part x = x.opens

-- ---- the part of a granted reply

abbrev pub sealed_part : (rows : PkinitRows) (exchange : ExchangeRecord) (grant : GrantRecord) (service : AccountRecord) → IsGranted rows exchange grant service → CiphertextRecord
sealed_part rows exchange grant service is =
    record { suite = is.under.suite; key = is.under.key; usage = is.under.usage; cipher = is.replied.reply_data.cipher.0 }

module _ (rows : PkinitRows) (exchange : ExchangeRecord) (grant : GrantRecord) (service : AccountRecord) (is : IsGranted rows exchange grant service) where
  -- it opens to what was granted
  part_opens : OpensTo {T = EncKdcRepPart} (reply_part_tree is.under.exchange) (sealed_part rows exchange grant service is) (reply_part grant)
  part_opens =
      sealed_to {T = EncKdcRepPart} (reply_part_tree is.under.exchange) (reply_part grant) is.under.suite is.under.key is.under.kvno is.under.usage
      (reply_confounder (cipher_confounder_size is.under.suite) exchange.call.words) (reply_part_bytes is.under.exchange (reply_part grant)) is.replied.reply_data
      (writes_part is.under.exchange grant (granted_texts rows exchange grant service is)) is.replied.reply_sealed

  with_tag : (kind : Exchange) → is.under.exchange ≡ kind → OpensTo {T = EncKdcRepPart} (reply_part_tree kind) (sealed_part rows exchange grant service is) (reply_part grant)
  with_tag kind same = subst (λ k. OpensTo {T = EncKdcRepPart} (reply_part_tree k) (sealed_part rows exchange grant service is) (reply_part grant)) same part_opens

  module _ (c : CiphertextRecord) (same : c ≡ sealed_part rows exchange grant service is) (part : EncKdcRepPart) where
    as_part : is.under.exchange ≡ As → OpensTo {T = EncKdcRepPart} enc_as_rep_part_tree c part → part ≡ reply_part grant
    as_part kind opens =
        one_opened {T = EncKdcRepPart} enc_as_rep_part_tree enc_as_rep_part-injective c (sealed_part rows exchange grant service is) same part (reply_part grant) opens (with_tag As kind)

    tgs_part : is.under.exchange ≡ Tgs → OpensTo {T = EncKdcRepPart} enc_tgs_rep_part_tree c part → part ≡ reply_part grant
    tgs_part kind opens =
        one_opened {T = EncKdcRepPart} enc_tgs_rep_part_tree enc_tgs_rep_part-injective c (sealed_part rows exchange grant service is) same part (reply_part grant) opens (with_tag Tgs kind)

    other_tag : is.under.exchange ≡ As → OpensTo {T = EncKdcRepPart} enc_tgs_rep_part_tree c part → ⊥
    other_tag kind opens =
        tags_apart (cipher_number is.under.suite) is.under.key is.under.usage is.replied.reply_data.cipher.0 (reply_part grant) part (with_tag As kind)
        (subst (λ k. OpensTo {T = EncKdcRepPart} enc_tgs_rep_part_tree k part) same opens)

  -- by its usage it is of this exchange
  not_further : IsOfFurther is.under → 3 ≡ is.under.usage → ⊥
  not_further further e = elim further.usage [
    | inl own ↦ let clash : 3 ≡ 8 = e ∙ own in omega (arith, clash)
    | inr own ↦ let clash : 3 ≡ 9 = e ∙ own in omega (arith, clash)
  ]

  not_first : IsOfFirst is.under → 8 ≡ is.under.usage → ⊥
  not_first first e = let clash : 8 ≡ 3 = e ∙ first.usage in omega (arith, clash)

  pub is_first : 3 ≡ is.under.usage → IsFirst rows exchange grant is.under service
  is_first e = elim is.by [
    | inl first ↦ first
    | inr further ↦ absurd (not_further (of_further rows exchange grant is.under service further) e)
  ]

  pub is_further : 8 ≡ is.under.usage → IsFurther exchange grant is.under service
  is_further e = elim is.by [
    | inl first ↦ absurd (not_first (of_first rows exchange grant is.under service first) e)
    | inr further ↦ further
  ]

-- ---- the credential

nonce_told : (client : ClientRecord) (service : List Bytes) (nonce : ℕ) (reply : KdcRep) (part : EncKdcRepPart) → is_answer client.realm client.components service nonce reply part ≡ true
    → part.nonce.0 ≡ pos nonce
unfolding is_answer
nonce_told client service nonce reply part e =
    let number = is_number nonce part.nonce.0 in
    let realm = is_same_realm reply.crealm.0 client.realm in
    let name = is_same_name (components reply.cname.0) client.components in
    let own = is_same_realm part.srealm.0 client.realm in
    let four = (and_parts (number && realm && name && own) (is_same_name (components part.sname.0) service) e).0 in
    let three = (and_parts (number && realm && name) own four).0 in
    let two = (and_parts (number && realm) name three).0 in
    number_is nonce part.nonce.0 (and_parts number realm two).0

module _ (client : ClientRecord) (service : List Bytes) (nonce : ℕ) (reply : KdcRep) (part : EncKdcRepPart) (credential : CredentialRecord) (taken : IsPartTaken client service nonce reply part credential)
    (grant : GrantRecord) (same : part ≡ reply_part grant) where
  same_suite : taken.suite ≡ grant.suite
  unfolding reply_part
  same_suite =
      let passes = found_passes (λ s. is_key_of s part.key.0) cipher_suites taken.suite taken.found in
      suite_of_number taken.suite grant.suite part.key.0.key_type.0 ((and_parts _ _ passes).0) (ap (λ (p : EncKdcRepPart). p.key.0.key_type.0) same)

  pub of_grant : IsOfGrantOf grant credential
  unfolding reply_part
  of_grant = record {
    own_suite = ap (λ (c : CredentialRecord). c.suite) taken.is ∙ same_suite;
    own_key = ap (λ (c : CredentialRecord). c.key) taken.is ∙ ap (λ (p : EncKdcRepPart). p.key.0.key_value.0) same;
    own_realm = ap (λ (c : CredentialRecord). c.realm) taken.is ∙ ap (λ (p : EncKdcRepPart). p.srealm.0) same;
    own_service = ap (λ (c : CredentialRecord). c.service) taken.is ∙ ap (λ (p : EncKdcRepPart). p.sname.0) same;
    own_authtime = ap (λ (c : CredentialRecord). c.authtime) taken.is ∙ ap (λ (p : EncKdcRepPart). p.auth_time.0.0) same;
    own_starttime = ap (λ (c : CredentialRecord). c.starttime) taken.is ∙ ap starttime_of same;
    own_endtime = ap (λ (c : CredentialRecord). c.endtime) taken.is ∙ ap (λ (p : EncKdcRepPart). p.end_time.0.0) same;
    own_flags = ap (λ (c : CredentialRecord). c.flags) taken.is ∙ ap (λ (p : EncKdcRepPart). p.flags.0) same;
  }

  pub of_nonce : grant.nonce ≡ pos nonce
  unfolding reply_part
  of_nonce = sym (ap (λ (p : EncKdcRepPart). p.nonce.0) same) ∙ nonce_told client service nonce reply part taken.answers

-- ---- what is taken the realm sent

module _ (rows : PkinitRows) (keys : List Bytes) (exchanges : List ExchangeRecord) (sent : SentRecord) where
  -- of an AS exchange
  module _ (client : ClientRecord) (asked : AsAskedRecord) (key : KeyRecord) (reply : KdcRep) (part : EncKdcRepPart) (credential : CredentialRecord)
      (taken : IsPartTaken client asked.service asked.nonce reply part credential) (opens : IsFirstPart key reply part) where
    abbrev of_first_reply : CiphertextRecord
    of_first_reply = first_reply_under key.suite key.bytes reply.enc_part.0.cipher.0

    first_part : (exchange : ExchangeRecord) (made : IsReplyPartOf rows exchange of_first_reply) → made.granted.under.exchange ≡ As → part ≡ reply_part made.grant
    first_part exchange made kind = elim opens [
      | inl own ↦ as_part rows exchange made.grant made.service made.granted of_first_reply made.is part kind (as_opens key.suite key.bytes reply.enc_part.0 part own)
      | inr own ↦ absurd (other_tag rows exchange made.grant made.service made.granted of_first_reply made.is part kind (tgs_opens key.suite key.bytes 3 reply.enc_part.0 part own))
    ]

    by_first_part : (exchange : ExchangeRecord) → IsAmong exchange exchanges → IsReplyPartOf rows exchange of_first_reply → IsByFirst rows exchanges key.bytes asked.nonce credential
    by_first_part exchange among made =
        let usage : 3 ≡ made.granted.under.usage = ap (λ (k : CiphertextRecord). k.usage) made.is in
        let first = is_first rows exchange made.grant made.service made.granted usage in
        let same = first_part exchange made (of_first rows exchange made.grant made.granted.under made.service first).exchange in (
          record {
            exchange = exchange;
            among = among;
            grant = made.grant;
            account = made.service;
            granted = made.granted;
            under = sym (ap (λ (k : CiphertextRecord). k.key) made.is);
            answers = of_nonce client asked.service asked.nonce reply part credential taken made.grant same;
            told = of_grant client asked.service asked.nonce reply part credential taken made.grant same;
          },
          first,
        )

  pub first_reply_sent : (client : ClientRecord) (means : MeansRecord) (asked : AsAskedRecord) (message : Bytes) (credential : CredentialRecord)
      → IsFirstReplyUnforged rows keys exchanges sent client means asked message → (takes_as_reply client means asked message).gives (Ok credential)
      → (key : KeyRecord) × IsByFirst rows exchanges key.bytes asked.nonce credential
  first_reply_sent client means asked message credential unforged given =
      let own = first_taken_of client means asked message credential given in
      let key : KeyRecord = own.key in
      let kept = unforged own.reply key own.read own.keyed in
      let c : CiphertextRecord = first_reply_under key.suite key.bytes own.reply.enc_part.0.cipher.0 in
      let made = reply_part_made rows exchanges sent c refl (kept.0 c (record { reply = own.reply; read = own.read; part = own.part; opens = own.opens; is = refl }) kept.1) in
      (key, by_first_part client asked key own.reply own.part credential own.taken own.opens made.0 made.1 made.2)

  -- of a TGS exchange
  module _ (client : ClientRecord) (asked : TgsAskedRecord) (reply : KdcRep) (part : EncKdcRepPart) (credential : CredentialRecord)
      (taken : IsPartTaken client asked.service asked.nonce reply part credential) (opens : IsTgsPart asked.suite asked.key 8 reply.enc_part.0 part) where
    abbrev of_further_reply : CiphertextRecord
    of_further_reply = further_reply_under asked.suite asked.key reply.enc_part.0.cipher.0

    by_further_part : (exchange : ExchangeRecord) → IsAmong exchange exchanges → IsReplyPartOf rows exchange of_further_reply → IsByFurther rows exchanges asked.key asked.nonce credential
    by_further_part exchange among made =
        let usage : 8 ≡ made.granted.under.usage = ap (λ (k : CiphertextRecord). k.usage) made.is in
        let further = is_further rows exchange made.grant made.service made.granted usage in
        let same = tgs_part rows exchange made.grant made.service made.granted of_further_reply made.is part
        (of_further rows exchange made.grant made.granted.under made.service further).exchange (tgs_opens asked.suite asked.key 8 reply.enc_part.0 part opens) in (
          record {
            exchange = exchange;
            among = among;
            grant = made.grant;
            account = made.service;
            granted = made.granted;
            under = sym (ap (λ (k : CiphertextRecord). k.key) made.is);
            answers = of_nonce client asked.service asked.nonce reply part credential taken made.grant same;
            told = of_grant client asked.service asked.nonce reply part credential taken made.grant same;
          },
          further,
        )

  pub further_reply_sent : (client : ClientRecord) (asked : TgsAskedRecord) (message : Bytes) (credential : CredentialRecord)
      → IsUnforged rows keys exchanges sent (OpensFurtherReply asked message) → IsAmong asked.key keys → (takes_tgs_reply client asked message).gives (Ok credential)
      → IsByFurther rows exchanges asked.key asked.nonce credential
  further_reply_sent client asked message credential unforged kept given =
      let own = further_taken_of client asked message credential given in
      let c : CiphertextRecord = further_reply_under asked.suite asked.key own.reply.enc_part.0.cipher.0 in
      let made = reply_part_made rows exchanges sent c refl (unforged c (record { reply = own.reply; read = own.read; part = own.part; opens = own.opens; is = refl }) kept) in
      by_further_part client asked own.reply own.part credential own.taken own.opens made.0 made.1 made.2
