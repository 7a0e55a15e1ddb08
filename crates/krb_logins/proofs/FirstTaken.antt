-- The client takes the first ticket: each row of the AS reply's table is passed.
use Rattle.std.proofs.Common.{◌≡◌, ℕ, true, not, Option, Result, Ok, Err, refl, sym, ap, subst, length, arith}
use Rattle.picky_asn1.specs.Bytes.{Bytes}
use Rattle.asn1_leaves.specs.CharSets.{is_general_string}
use Rattle.krb_crypto.specs.Keys.{KeyRecord}
use Rattle.krb_crypto.specs.Suites.{cipher_confounder_size, cipher_key_size}
use Rattle.krb_crypto.specs.declared.suite.CipherSuite.{CipherSuite}
use Rattle.krb_messages.specs.RandomBytes.{Random, reply_confounder}
use Rattle.krb_messages.specs.declared.data_types.encrypted_data.EncryptedData.{EncryptedData}
use Rattle.krb_messages.specs.Messages.{IsAsRep, enc_as_rep_part_tree, sole_as_rep}
use Rattle.krb_messages.specs.declared.messages.enc_kdc_rep_part.EncKdcRepPart.{EncKdcRepPart}
use Rattle.krb_messages.specs.declared.messages.kdc_rep.KdcRep.{KdcRep}
use Rattle.krb_realm_accounts.specs.Account.{AccountRecord}
use Rattle.decision_tables.specs.Tables.{Table, and_then, ask, done}
use Rattle.krb_tickets.specs.Sealing.{Seals, sealed_opens}
use Rattle.krb_kdc_exchanges.specs.Rows.{PkinitRows}
use Rattle.krb_tickets.specs.Grant.{GrantRecord}
use Rattle.krb_tickets.specs.declared.reply.Exchange.TheVariants.{As}
use Rattle.krb_tickets.specs.Parts.{kdc_reply_of, padata_of, reply_part, ticket_of}
use Rattle.krb_tickets.specs.ReplyKeys.{ReplyKeyRecord}
use Rattle.krb_tickets.specs.Sealed.{reply_part_bytes}
use Rattle.krb_tickets.specs.Granted.{IsTicketReply}
use Rattle.krb_client.specs.Asked.{AsAskedRecord}
use Rattle.krb_client.specs.AsReply.{IsAsPart, TakesAsReply, sole_as_part, takes_as_reply, takes_reply, takes_sealed}
use Rattle.krb_client.specs.Client.{ClientRecord, CredentialRecord}
use Rattle.krb_client.specs.Means.{MeansRecord}
use Rattle.krb_client.specs.Messages.{IsErrorCode, sole_error_code}
use Rattle.krb_client.specs.Taking.{IsTgsPart, Taken, is_of_type, sole_tgs_part, takes_part}
use Rattle.krb_client.specs.declared.refusal.TakeRefusal.{TakeRefusal}
use Rattle.krb_client.specs.declared.refusal.TakeRefusal.TheVariants.{NotSealed, Refused, Unreadable}
use Rattle.krb_service.specs.Service.{ServiceRecord}
use Rattle.krb_logins.specs.Authenticated.{IsAgreedKey, first_asked}
use Rattle.krb_logins.specs.Held.{IsHeld, first_grant}
use Rattle.krb_logins.specs.Laws.{IsFirstTaken, IsMet}
use Rattle.krb_logins.specs.Parties.{LoginRecord, RealmRecord, RememberedRecord}
use Rattle.krb_logins.proofs.Giving.{past_found}
use Rattle.krb_logins.proofs.GrantTaken.{IsAskedFor, session_key_sized, taken_held}
use Rattle.krb_logins.proofs.Names.{component_texts, granting_texts, realm_text}
use Rattle.krb_logins.proofs.NoErrors.{no_error}
use Rattle.krb_logins.proofs.Passing.{past_ask, past_none, past_refuse}
use Rattle.krb_logins.proofs.WholeReplies.{AreTexts, reply_written, writes_part}

-- the reply is of the right version and type
typed : (pk_as_rep : Option Bytes) (grant : GrantRecord) (ticket sealed : EncryptedData)
    → is_of_type 11 (kdc_reply_of As pk_as_rep grant (ticket_of grant ticket) sealed).pvno.0 (kdc_reply_of As pk_as_rep grant (ticket_of grant ticket) sealed).msg_type.0 ≡ true
unfolding kdc_reply_of
typed pk_as_rep grant ticket sealed = refl

-- its padata is PA-PK-AS-REP or none
told : (pk_as_rep : Option Bytes) (grant : GrantRecord) (ticket sealed : EncryptedData) → (kdc_reply_of As pk_as_rep grant (ticket_of grant ticket) sealed).padata.0 ≡ padata_of pk_as_rep
unfolding kdc_reply_of
told pk_as_rep grant ticket sealed = refl

-- its part is what was sealed for the client
part_opened : (suite : CipherSuite) (key : Bytes) (kvno : Option ℕ) (pk_as_rep : Option Bytes) (grant : GrantRecord) (confounder : Bytes) (ticket sealed : EncryptedData)
    → AreTexts grant → Seals suite key kvno 3 confounder (reply_part_bytes As (reply_part grant)) sealed
    → IsAsPart suite key (kdc_reply_of As pk_as_rep grant (ticket_of grant ticket) sealed).enc_part.0 (reply_part grant)
unfolding IsAsPart kdc_reply_of
part_opened suite key kvno pk_as_rep grant confounder ticket sealed texts it =
    sealed_opens {T = EncKdcRepPart} enc_as_rep_part_tree (reply_part grant) suite key kvno 3 confounder (reply_part_bytes As (reply_part grant)) sealed (writes_part As grant texts) it

-- a reply key that both agree on is of an AS exchange
abbrev of_as : ReplyKeyRecord → ReplyKeyRecord
of_as under = record { exchange = As; suite = under.suite; key = under.key; kvno = under.kvno; usage = 3; pk_as_rep = under.pk_as_rep }

is_of_as : (under : ReplyKeyRecord) → under.exchange ≡ As → under.usage ≡ 3 → under ≡ of_as under
is_of_as under exchange usage = λ i. record { exchange = exchange i; suite = under.suite; key = under.key; kvno = under.kvno; usage = usage i; pk_as_rep = under.pk_as_rep }

module _ (client : ClientRecord) (means : MeansRecord) (asked : AsAskedRecord) where
  -- the bytes are read as the reply, which is opened
  read : (bytes : Bytes) (reply : KdcRep) (taken : Taken) → IsAsRep bytes reply → TakesAsReply client means asked bytes taken → (takes_reply client means asked reply).gives taken
  unfolding takes_as_reply
  read bytes reply taken is x =
      past_ask (IsAsRep bytes) (sole_as_rep bytes) (done (Err Unreadable)) (takes_reply client means asked) reply taken is
      (past_none (IsErrorCode bytes) (sole_error_code bytes) (ask (IsAsRep bytes) (sole_as_rep bytes) (done (Err Unreadable)) (takes_reply client means asked))
      (λ code. done (Err (Refused code))) taken (no_error 107 _ bytes is.1 (λ e. omega (arith, e))) x)

  abbrev under_key : KdcRep → KeyRecord → Table Taken
  under_key reply key = takes_sealed client key asked reply

  abbrev by_tgs_tag : KeyRecord → KdcRep → Table Taken
  by_tgs_tag key reply =
      ask (IsTgsPart key.suite key.bytes 3 reply.enc_part.0) (sole_tgs_part key.suite key.bytes 3 reply.enc_part.0) (done (Err NotSealed)) (takes_part client asked.service asked.nonce reply)

  -- the reply's key is the one that both agree on
  keyed : (reply : KdcRep) (key : KeyRecord) (taken : Taken) → is_of_type 11 reply.pvno.0 reply.msg_type.0 ≡ true
      → ((k : Result KeyRecord TakeRefusal) → (means.reply_key client asked reply).gives k → k ≡ Ok key)
      → (takes_reply client means asked reply).gives taken → (takes_sealed client key asked reply).gives taken
  keyed reply key taken of_type agreed x =
      let judged = past_refuse {T = CredentialRecord} {E = TakeRefusal} (not (is_of_type 11 reply.pvno.0 reply.msg_type.0)) Unreadable
      (and_then {A = KeyRecord} {T = CredentialRecord} {E = TakeRefusal} (means.reply_key client asked reply) (under_key reply)) taken (ap not of_type) x in
      let found = past_found {A = KeyRecord} {T = CredentialRecord} {E = TakeRefusal} (λ k. k ≡ key) (means.reply_key client asked reply) (under_key reply) taken
      (λ k given. (key, refl, agreed k given)) judged in
      subst (λ k. (takes_sealed client k asked reply).gives taken) found.1 found.2

  opened : (reply : KdcRep) (key : KeyRecord) (part : EncKdcRepPart) (taken : Taken) → IsAsPart key.suite key.bytes reply.enc_part.0 part
      → (takes_sealed client key asked reply).gives taken → (takes_part client asked.service asked.nonce reply part).gives taken
  opened reply key part taken is x =
      past_ask (IsAsPart key.suite key.bytes reply.enc_part.0) (sole_as_part key.suite key.bytes reply.enc_part.0) (by_tgs_tag key reply)
      (takes_part client asked.service asked.nonce reply) part taken is x

-- what is granted is taken, where it is what was asked for
pub taken_of : (client : ClientRecord) (means : MeansRecord) (under : ReplyKeyRecord) (service : AccountRecord) (asked : AsAskedRecord) (grant : GrantRecord) (words : Random) (granted : Bytes) (taken : Taken)
    → IsAgreedKey client means asked under → AreTexts grant → IsAskedFor client asked.service asked.nonce grant
    → length grant.session ≡ cipher_key_size grant.suite
    → IsTicketReply grant under service words granted → TakesAsReply client means asked granted taken
    → (credential : CredentialRecord) × (taken ≡ Ok credential) × IsHeld service words grant credential
taken_of client means under service asked grant words granted taken agreed texts is sized replied x =
    let it : IsTicketReply grant (of_as under) service words granted = subst (λ u. IsTicketReply grant u service words granted) (is_of_as under agreed.exchange agreed.usage) replied in
    let key : KeyRecord = record { suite = under.suite; bytes = under.key } in
    let reply : KdcRep = kdc_reply_of As under.pk_as_rep grant (ticket_of grant it.ticket_data) it.reply_data in
    let as_read = read client means asked granted reply taken (reply_written As under.pk_as_rep grant it.ticket_data it.reply_data granted texts it.encoding) x in
    let as_keyed = keyed client means asked reply key taken (typed under.pk_as_rep grant it.ticket_data it.reply_data)
    (agreed.taken reply (told under.pk_as_rep grant it.ticket_data it.reply_data)) as_read in
    let as_opened = opened client means asked reply key (reply_part grant) taken
    (part_opened under.suite under.key under.kvno under.pk_as_rep grant (reply_confounder (cipher_confounder_size under.suite) words) it.ticket_data it.reply_data texts it.reply_sealed) as_keyed in
    taken_held client asked.service asked.nonce As under.pk_as_rep grant it.ticket_data it.reply_data service words taken is sized it.ticket_sealed as_opened

pub first_taken : (client : ClientRecord) (means : MeansRecord) (realm : RealmRecord) (rows : PkinitRows) (service : ServiceRecord) (before : RememberedRecord) (login : LoginRecord)
    (met : IsMet client means realm rows service before login)
    → IsFirstTaken client means realm rows service before login met
unfolding IsFirstTaken
first_taken client means realm rows service before login met span under granted taken agreed it x =
    let texts : AreTexts (first_grant client realm login span) = record {
      realm = subst (λ name. is_general_string name ≡ true) met.honest.named.client (realm_text client.realm met.parties.realm);
      client = component_texts client.components met.parties.name;
      service = granting_texts client.realm met.parties.realm;
    } in
    taken_of client means under met.granting.account (first_asked client login) (first_grant client realm login span) login.realm_words_as granted taken
    agreed texts
    (record { nonce = refl; realm = sym met.honest.named.client; name = refl; service = refl })
    (session_key_sized client.suite login.realm_words_as met.enough.realm_as) it x
