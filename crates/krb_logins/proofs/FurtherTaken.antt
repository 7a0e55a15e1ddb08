-- The client takes the ticket for the service: each row of the TGS reply's table is passed.
use Rattle.std.proofs.Common.{◌≡◌, true, not, None, Ok, Err, refl, sym, ap, subst, length, arith}
use Rattle.picky_asn1.specs.Bytes.{Bytes}
use Rattle.asn1_leaves.specs.CharSets.{is_general_string}
use Rattle.krb_crypto.specs.declared.suite.CipherSuite.{CipherSuite}
use Rattle.krb_crypto.specs.Suites.{cipher_confounder_size, cipher_key_size}
use Rattle.krb_messages.specs.RandomBytes.{Random, reply_confounder}
use Rattle.krb_messages.specs.declared.data_types.encrypted_data.EncryptedData.{EncryptedData}
use Rattle.krb_messages.specs.Messages.{IsTgsRep, enc_tgs_rep_part_tree, sole_tgs_rep}
use Rattle.krb_messages.specs.declared.messages.enc_kdc_rep_part.EncKdcRepPart.{EncKdcRepPart}
use Rattle.krb_messages.specs.declared.messages.kdc_rep.KdcRep.{KdcRep}
use Rattle.krb_realm_accounts.specs.Account.{AccountRecord}
use Rattle.krb_kdc_exchanges.specs.Rows.{PkinitRows}
use Rattle.decision_tables.specs.Tables.{Table, ask, done}
use Rattle.krb_tickets.specs.Sealing.{sealed_opens}
use Rattle.krb_tickets.specs.Grant.{GrantRecord}
use Rattle.krb_tickets.specs.declared.reply.Exchange.TheVariants.{Tgs}
use Rattle.krb_tickets.specs.Parts.{kdc_reply_of, reply_part, session_key_of, ticket_of}
use Rattle.krb_tickets.specs.ReplyKeys.{tgs_reply_key}
use Rattle.krb_tickets.specs.Sealed.{IsSealedReply, reply_part_bytes}
use Rattle.krb_tickets.specs.Granted.{IsTicketReply}
use Rattle.krb_client.specs.Asked.{TgsAskedRecord}
use Rattle.krb_client.specs.Client.{ClientRecord, CredentialRecord}
use Rattle.krb_client.specs.Means.{MeansRecord}
use Rattle.krb_client.specs.Messages.{IsErrorCode, sole_error_code}
use Rattle.krb_client.specs.Taking.{IsTgsPart, Taken, is_of_type, sole_tgs_part, takes_part}
use Rattle.krb_client.specs.TgsReply.{TakesTgsReply, takes_further, takes_tgs_reply}
use Rattle.krb_client.specs.TgsRequest.{tgs_asked}
use Rattle.krb_client.specs.declared.refusal.TakeRefusal.{TakeRefusal}
use Rattle.krb_client.specs.declared.refusal.TakeRefusal.TheVariants.{NotSealed, Refused, Unreadable}
use Rattle.krb_service.specs.Service.{ServiceRecord}
use Rattle.krb_logins.specs.Held.{IsHeld, further_grant}
use Rattle.krb_logins.specs.Laws.{IsFurtherTaken, IsMet}
use Rattle.krb_logins.specs.Parties.{LoginRecord, RealmRecord, RememberedRecord}
use Rattle.krb_logins.proofs.GrantTaken.{IsAskedFor, session_key_sized, taken_held}
use Rattle.krb_logins.proofs.Names.{are_texts, component_texts, realm_text}
use Rattle.krb_logins.proofs.NoErrors.{no_error}
use Rattle.krb_logins.proofs.Opened.{opened_by}
use Rattle.krb_logins.proofs.Passing.{past_ask, past_none, past_refuse}
use Rattle.krb_logins.proofs.WholeReplies.{AreTexts, reply_written, writes_part}

-- the reply is of the right version and type
typed : (grant : GrantRecord) (ticket sealed : EncryptedData)
    → is_of_type 13 (kdc_reply_of Tgs None grant (ticket_of grant ticket) sealed).pvno.0 (kdc_reply_of Tgs None grant (ticket_of grant ticket) sealed).msg_type.0 ≡ true
unfolding kdc_reply_of
typed grant ticket sealed = refl

-- its part is what was sealed under the session's key
part_opened : (suite held_suite : CipherSuite) (key held_key : Bytes) (grant : GrantRecord) (confounder : Bytes) (ticket sealed : EncryptedData)
    → suite ≡ held_suite → key ≡ held_key → AreTexts grant
    → IsSealedReply (tgs_reply_key suite key) confounder (reply_part_bytes Tgs (reply_part grant)) sealed
    → IsTgsPart held_suite held_key 8 (kdc_reply_of Tgs None grant (ticket_of grant ticket) sealed).enc_part.0 (reply_part grant)
unfolding IsTgsPart kdc_reply_of
part_opened suite held_suite key held_key grant confounder ticket sealed same_suite same_key texts it =
    opened_by {T = EncKdcRepPart} enc_tgs_rep_part_tree suite held_suite key held_key 8 sealed (reply_part grant) same_suite same_key
    (sealed_opens {T = EncKdcRepPart} enc_tgs_rep_part_tree (reply_part grant) suite key None 8 confounder
    (reply_part_bytes Tgs (reply_part grant)) sealed (writes_part Tgs grant texts) it)

module _ (client : ClientRecord) (asked : TgsAskedRecord) where
  -- the bytes are read as the reply, which is opened
  read : (bytes : Bytes) (reply : KdcRep) (taken : Taken) → IsTgsRep bytes reply → TakesTgsReply client asked bytes taken → (takes_further client asked reply).gives taken
  unfolding takes_tgs_reply
  read bytes reply taken is x =
      past_ask (IsTgsRep bytes) (sole_tgs_rep bytes) (done (Err Unreadable)) (takes_further client asked) reply taken is
      (past_none (IsErrorCode bytes) (sole_error_code bytes) (ask (IsTgsRep bytes) (sole_tgs_rep bytes) (done (Err Unreadable)) (takes_further client asked))
      (λ code. done (Err (Refused code))) taken (no_error 109 _ bytes is.1 (λ e. omega (arith, e))) x)

  abbrev by_key : KdcRep → Table Taken
  by_key reply =
      ask (IsTgsPart asked.suite asked.key 8 reply.enc_part.0) (sole_tgs_part asked.suite asked.key 8 reply.enc_part.0) (done (Err NotSealed))
      (takes_part client asked.service asked.nonce reply)

  opened : (reply : KdcRep) (part : EncKdcRepPart) (taken : Taken) → is_of_type 13 reply.pvno.0 reply.msg_type.0 ≡ true → IsTgsPart asked.suite asked.key 8 reply.enc_part.0 part
      → (takes_further client asked reply).gives taken → (takes_part client asked.service asked.nonce reply part).gives taken
  opened reply part taken of_type is x =
      past_ask (IsTgsPart asked.suite asked.key 8 reply.enc_part.0) (sole_tgs_part asked.suite asked.key 8 reply.enc_part.0) (done (Err NotSealed))
      (takes_part client asked.service asked.nonce reply) part taken is
      (past_refuse {T = CredentialRecord} {E = TakeRefusal} (not (is_of_type 13 reply.pvno.0 reply.msg_type.0)) Unreadable (by_key reply) taken (ap not of_type) x)

-- what is granted is taken, where it is what was asked for
pub taken_of : (client : ClientRecord) (suite : CipherSuite) (key : Bytes) (account : AccountRecord) (asked : TgsAskedRecord) (grant : GrantRecord) (words : Random) (granted : Bytes) (taken : Taken)
    → suite ≡ asked.suite → key ≡ asked.key → AreTexts grant → IsAskedFor client asked.service asked.nonce grant
    → length grant.session ≡ cipher_key_size grant.suite
    → IsTicketReply grant (tgs_reply_key suite key) account words granted → TakesTgsReply client asked granted taken
    → (credential : CredentialRecord) × (taken ≡ Ok credential) × IsHeld account words grant credential
taken_of client suite key account asked grant words granted taken same_suite same_key texts is sized it x =
    let reply = kdc_reply_of Tgs None grant (ticket_of grant it.ticket_data) it.reply_data in
    let as_read = read client asked granted reply taken (reply_written Tgs None grant it.ticket_data it.reply_data granted texts it.encoding) x in
    let as_opened = opened client asked reply (reply_part grant) taken (typed grant it.ticket_data it.reply_data)
    (part_opened suite asked.suite key asked.key grant (reply_confounder (cipher_confounder_size suite) words) it.ticket_data it.reply_data same_suite same_key texts it.reply_sealed) as_read in
    taken_held client asked.service asked.nonce Tgs None grant it.ticket_data it.reply_data account words taken is sized it.ticket_sealed as_opened

pub further_taken : (client : ClientRecord) (means : MeansRecord) (realm : RealmRecord) (rows : PkinitRows) (service : ServiceRecord) (before : RememberedRecord) (login : LoginRecord)
    (met : IsMet client means realm rows service before login)
    → IsFurtherTaken client means realm rows service before login met
unfolding IsFurtherTaken
further_taken client means realm rows service before login met first span granting granted taken held it x =
    let asked = tgs_asked granting login.service login.words_tgs in
    let grant = further_grant client realm login first span in
    let texts : AreTexts grant = record {
      realm = subst (λ name. is_general_string name ≡ true) met.honest.named.client (realm_text client.realm met.parties.realm);
      client = component_texts client.components met.parties.name;
      service = subst (λ name. are_texts name ≡ true) (sym met.honest.named.asked) (component_texts service.entry.components met.parties.entry.1.1);
    } in
    taken_of client client.suite (session_key_of client.suite login.realm_words_as) met.honest.service.account asked grant login.realm_words_tgs granted taken
    (sym held.suite) (sym held.key) texts
    (record { nonce = refl; realm = sym met.honest.named.client; name = refl; service = refl })
    (session_key_sized client.suite login.realm_words_tgs met.enough.realm_tgs) it x
