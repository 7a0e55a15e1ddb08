-- The steps of a login by a client, a realm and a service as they are held: what each call makes, or why the login ends there.
use Rattle.std.specs.Prelude.{Result}
use Rattle.picky_asn1.specs.Bytes.{Bytes}
use Rattle.krb_realm_accounts.specs.Accounts.{look_in}
use Rattle.krb_kdc_exchanges.specs.Call.{CallRecord}
use Rattle.krb_messages.specs.TicketGranting.{krbtgt_of}
use Rattle.krb_kdc_exchanges.specs.Rows.{PkinitRows}
use Rattle.x509_keys.specs.KeyFunctions.{KeysRecord}
use Rattle.pkinit_validation.specs.PkinitRows.{pkinit_rows}
use Rattle.krb_client.specs.Asked.{AsAskedRecord, TgsAskedRecord}
use Rattle.krb_client.specs.AsReply.{takes_as_reply}
use Rattle.krb_client.specs.Client.{ClientRecord, CredentialRecord}
use Rattle.krb_client.specs.Means.{MeansRecord}
use Rattle.krb_client.specs.Refusals.{IsTaken}
use Rattle.krb_client.specs.TgsReply.{takes_tgs_reply}
use Rattle.krb_logins.specs.Parties.{LoginRecord, RealmRecord}
use Rattle.krb_logins.specs.Steps.{IsAsAsked, IsKdcAnswered, IsTgsAsked}
use Rattle.krb_logins.specs.declared.refusal.LoginRefusal.{LoginRefusal}
use Rattle.krb_logins.specs.declared.refusal.LoginRefusal.TheVariants.{Answered, Asked, Taken}
use Rattle.krb_logins.specs.ApExchanges.{IsStep, Made, sent_as}
use Rattle.krb_memory_realms.specs.Realm.{RealmState}

-- the client's AS request of a login and what it then remembers, or why the login ends there (RFC 4120, section 3.1.1)
unfoldable pub AsAsk : ClientRecord → MeansRecord → LoginRecord → Result (Made × AsAskedRecord) LoginRefusal → Type 0
AsAsk client means login = IsStep sent_as (IsAsAsked client means (krbtgt_of client.realm) login.till login.client_as login.words_as) Asked

-- the client's TGS request of a login and what it then remembers, or why the login ends there (RFC 4120, section 3.3.1)
unfoldable pub TgsAsk : ClientRecord → LoginRecord → CredentialRecord → Result (Made × TgsAskedRecord) LoginRefusal → Type 0
TgsAsk client login granting = IsStep sent_as (IsTgsAsked client granting login.service login.till login.client_tgs login.words_tgs) Asked

-- the realm as logins see it
abbrev pub realm_record : RealmState → RealmRecord
realm_record realm = record { name = realm.name; settings = realm.settings; look = look_in realm.accounts }

-- the rows by which a realm with these key functions judges requests by certificate
abbrev pub realm_rows : RealmState → KeysRecord → PkinitRows
realm_rows realm keys = pkinit_rows realm.trust keys

-- what the realm replies to a request, or why the login ends there
unfoldable pub Answer : CallRecord → PkinitRows → Bytes → Result Made LoginRefusal → Type 0
Answer call rows request = IsStep (λ reply. reply.items) (IsKdcAnswered call rows request) Answered

-- the credential that the client takes from the AS reply, or why the login ends there (RFC 4120, section 3.1.5)
unfoldable pub AsTake : ClientRecord → MeansRecord → AsAskedRecord → Bytes → Result CredentialRecord LoginRefusal → Type 0
AsTake client means asked reply = IsStep (λ credential. credential) (IsTaken (takes_as_reply client means asked reply)) Taken

-- the credential that the client takes from the TGS reply, or why the login ends there (RFC 4120, section 3.3.4)
unfoldable pub TgsTake : ClientRecord → TgsAskedRecord → Bytes → Result CredentialRecord LoginRefusal → Type 0
TgsTake client asked reply = IsStep (λ credential. credential) (IsTaken (takes_tgs_reply client asked reply)) Taken
