-- Logins by a ticket-granting ticket that the client holds, and logins over renewed and forwarded tickets (RFC 4120, sections 2.3, 2.6 and
-- 3.3).
use Rattle.std.specs.Prelude.{◌≡◌, ◌⊎◌, List, [], ◌∷◌, Result, Ok, Err}
use Rattle.krb_messages.specs.TicketGranting.{krbtgt_of}
use Rattle.krb_kdc_exchanges.specs.Rows.{PkinitRows}
use Rattle.krb_kdc_exchanges.specs.Times.{start_of}
use Rattle.krb_client.specs.Client.{ClientRecord, CredentialRecord}
use Rattle.krb_client.specs.Means.{MeansRecord}
use Rattle.krb_client.specs.declared.options.TicketOptions.{TicketOptions}
use Rattle.krb_service.specs.Service.{IsService, ServiceRecord}
use Rattle.krb_logins.specs.Honest.{IsTicketInTime, clock_of}
use Rattle.krb_logins.specs.LoginRun.{ApExchange, AsExchangeWith, Login, TgsExchange, TgsExchangeWith}
use Rattle.krb_logins.specs.Parties.{LoginRecord, RealmRecord, RememberedRecord, TgsRecord, tgs_of}
use Rattle.krb_logins.specs.Tickets.{AreOfOneRealm, IsApHonest, IsAsHonest, IsTgsHonest, end_by}
use Rattle.krb_logins.specs.declared.refusal.LoginRefusal.{LoginRefusal}

-- ---- a login by a ticket-granting ticket

-- by it the client asks for a ticket for the service, and is admitted by that one; or the TGS exchange ends the login
unfoldable pub TicketLogin : ClientRecord → RealmRecord → PkinitRows → ServiceRecord → LoginRecord → CredentialRecord → RememberedRecord → Result Login LoginRefusal → RememberedRecord → Type 0
TicketLogin client realm rows service login granting before result after =
    ((credential : CredentialRecord) × TgsExchange client realm rows login granting (Ok credential) × ApExchange client service login credential before result after)
    ⊎ ((refusal : LoginRefusal) × TgsExchange client realm rows login granting (Err refusal) × (result ≡ Err refusal) × (after ≡ before))

-- it is honest: so are both exchanges, and the ticket for the service is valid in the second one
pub record IsTicketLoginHonest (asking : ClientRecord) (realm : RealmRecord) (asked_for : ServiceRecord) (before : RememberedRecord) (login : LoginRecord) (granting : CredentialRecord) : Type 0 where
  pub entry : IsService asked_for
  pub tgs : IsTgsHonest asking realm (tgs_of login) granting
  pub ap : IsApHonest asking realm asked_for before login
  pub valid : IsTicketInTime (start_of login.realm_tgs) (end_by realm (tgs_of login) granting) asked_for.seen.skew (clock_of before login)

-- ---- chains of ticket-granting tickets

-- TGS exchanges one after another, each by the ticket that the one before it made; the first refusal ends them
unfoldable pub TicketChain : ClientRecord → RealmRecord → PkinitRows → List TgsRecord → CredentialRecord → Result CredentialRecord LoginRefusal → Type 0
TicketChain client realm rows [] granting result = result ≡ Ok granting
TicketChain client realm rows (exchange ∷ exchanges) granting result =
    ((next : CredentialRecord) × TgsExchangeWith client realm rows exchange granting (Ok next) × TicketChain client realm rows exchanges next result)
    ⊎ ((refusal : LoginRefusal) × TgsExchangeWith client realm rows exchange granting (Err refusal) × (result ≡ Err refusal))

-- each is honest by the ticket that the client then holds, and asks for a ticket-granting ticket: as a rule the presented one renewed or
-- forwarded
abbrev pub IsChainHonest : ClientRecord → RealmRecord → PkinitRows → List TgsRecord → CredentialRecord → Type 0
IsChainHonest client realm rows [] granting = Unit {0}
IsChainHonest client realm rows (exchange ∷ exchanges) granting =
    (exchange.service ≡ krbtgt_of client.realm) × IsTgsHonest client realm exchange granting
    × ((next : CredentialRecord) → TgsExchangeWith client realm rows exchange granting (Ok next) → IsChainHonest client realm rows exchanges next)

-- an AS exchange with options, and a chain from the first ticket on
unfoldable pub ChainedTicket : ClientRecord → TicketOptions → MeansRecord → RealmRecord → PkinitRows → LoginRecord → List TgsRecord → Result CredentialRecord LoginRefusal → Type 0
ChainedTicket client options means realm rows login exchanges result =
    ((granting : CredentialRecord) × AsExchangeWith client options means realm rows login (Ok granting) × TicketChain client realm rows exchanges granting result)
    ⊎ ((refusal : LoginRefusal) × AsExchangeWith client options means realm rows login (Err refusal) × (result ≡ Err refusal))

-- a login by the last ticket of the chain
unfoldable pub ChainLogin : ClientRecord → TicketOptions → MeansRecord → RealmRecord → PkinitRows → ServiceRecord → LoginRecord → List TgsRecord → RememberedRecord → Result Login LoginRefusal → RememberedRecord → Type 0
ChainLogin client options means realm rows service login exchanges before result after =
    ((granting : CredentialRecord) × ChainedTicket client options means realm rows login exchanges (Ok granting) × TicketLogin client realm rows service login granting before result after)
    ⊎ ((refusal : LoginRefusal) × ChainedTicket client options means realm rows login exchanges (Err refusal) × (result ≡ Err refusal) × (after ≡ before))

-- it is honest: the AS exchange is, each exchange of the chain is, and so is the login by the last ticket
pub record IsChainLoginHonest (client : ClientRecord) (options : TicketOptions) (means : MeansRecord) (realm : RealmRecord) (rows : PkinitRows) (service : ServiceRecord) (login : LoginRecord)
    (exchanges : List TgsRecord) (before : RememberedRecord) : Type 0 where
  pub one : AreOfOneRealm client realm
  pub first : IsAsHonest client options means realm rows one.known.account login
  pub chain : (granting : CredentialRecord) → AsExchangeWith client options means realm rows login (Ok granting) → IsChainHonest client realm rows exchanges granting
  pub last : (granting : CredentialRecord) → ChainedTicket client options means realm rows login exchanges (Ok granting) → IsTicketLoginHonest client realm service before login granting
