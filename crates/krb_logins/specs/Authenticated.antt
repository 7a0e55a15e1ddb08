-- What honest clients and realms agree on, by whatever means the client authenticates itself (RFC 4120, section 3.1; RFC 4556,
-- section 3.2).
use Rattle.std.specs.Prelude.{◌≡◌, Result, Ok}
use Rattle.krb_constants.specs.KeyUsages.{key_usage}
use Rattle.krb_constants.specs.declared.key_usages.TheConstants.{AS_REP_ENC}
use Rattle.krb_messages.specs.Refusals.{Code}
use Rattle.krb_messages.specs.declared.data_types.pa_data.PaData.{PaData}
use Rattle.krb_messages.specs.declared.messages.kdc_rep.KdcRep.{KdcRep}
use Rattle.krb_messages.specs.declared.messages.kdc_req_body.KdcReqBody.{KdcReqBody}
use Rattle.krb_crypto.specs.Keys.{KeyRecord}
use Rattle.krb_realm_accounts.specs.Account.{AccountRecord}
use Rattle.krb_kdc_exchanges.specs.Rows.{PkinitRows}
use Rattle.krb_tickets.specs.Parts.{padata_of}
use Rattle.krb_tickets.specs.ReplyKeys.{ReplyKeyRecord}
use Rattle.krb_tickets.specs.declared.reply.Exchange.TheVariants.{As}
use Rattle.krb_kdc_exchanges.specs.AsTable.{authenticated}
use Rattle.krb_messages.specs.TicketGranting.{krbtgt_of}
use Rattle.krb_client.specs.Asked.{AsAskedRecord}
use Rattle.krb_client.specs.AsRequest.{as_asked, as_body, as_request_of}
use Rattle.krb_client.specs.Client.{ClientRecord}
use Rattle.krb_client.specs.Means.{MeansRecord}
use Rattle.krb_client.specs.declared.refusal.TakeRefusal.{TakeRefusal}
use Rattle.krb_logins.specs.Parties.{LoginRecord, RealmRecord, call_at}

-- the body of a login's request for a first ticket
abbrev pub as_body_of_login : ClientRecord → LoginRecord → KdcReqBody
as_body_of_login client login = as_body client (krbtgt_of client.realm) login.till login.words_as

-- what the client remembers of that request
abbrev pub first_asked : ClientRecord → LoginRecord → AsAskedRecord
first_asked client login = as_asked (krbtgt_of client.realm) login.client_as login.words_as

-- the realm's reply key is of an AS exchange (RFC 4120, section 7.5.1). Of each reply whose padata is the same PA-PK-AS-REP,
-- or none where there is none, the client takes that key and nothing else
pub record IsAgreedKey (client : ClientRecord) (means : MeansRecord) (asked : AsAskedRecord) (under : ReplyKeyRecord) : Type 0 where
  pub exchange : under.exchange ≡ As
  pub usage : under.usage ≡ key_usage AS_REP_ENC
  pub taken : (reply : KdcRep) → reply.padata.0 ≡ padata_of under.pk_as_rep → (key : Result KeyRecord TakeRefusal)
      → (means.reply_key client asked reply).gives key → key ≡ Ok (record { suite = under.suite; bytes = under.key })

-- the client's means don't refuse its request with this body. By each padata that they have for it the realm authenticates the client, and
-- replies under a key that both agree on
pub record IsAuthenticatedFor (client : ClientRecord) (means : MeansRecord) (realm : RealmRecord) (rows : PkinitRows) (account : AccountRecord) (login : LoginRecord) (body : KdcReqBody) : Type 0 where
  pub asks : means.refuses body login.client_as login.words_as → ⊥
  pub shown : (padata : PaData) → means.asks body login.client_as login.words_as padata
      → (r : Result ReplyKeyRecord Code)
      → (authenticated (call_at realm login.realm_as login.realm_words_as) rows account client.components (as_request_of padata body)).gives r
      → (under : ReplyKeyRecord) × (r ≡ Ok under) × IsAgreedKey client means (first_asked client login) under

-- so it is of a login's request
abbrev pub IsAuthenticated : ClientRecord → MeansRecord → RealmRecord → PkinitRows → AccountRecord → LoginRecord → Type 0
IsAuthenticated client means realm rows account login = IsAuthenticatedFor client means realm rows account login (as_body_of_login client login)
