-- A login whose tickets are put into a credential cache.
use Rattle.std.specs.Prelude.{List, [], ◌∷◌, Ok}
use Rattle.decision_tables.specs.Tables.{done}
use Rattle.picky_asn1.specs.Bytes.{Bytes}
use Rattle.krb_file_formats.specs.Entries.{Entry}
use Rattle.krb_client.specs.Client.{ClientRecord}
use Rattle.krb_file_formats.specs.Caches.{Cache}
use Rattle.krb_client_exchanges.specs.declared.wanted.Wanted.TheVariants.{Usual}
use Rattle.krb_client_exchanges.specs.LoginCaches.{login_cache}
use Rattle.krb_client_exchanges.specs.Courses.{Course, ◌>>=◌, judged}
use Rattle.krb_client_exchanges.specs.Logins.{login_by_keytab, ticket_for}
use Rattle.krb_client_exchanges.specs.Suites.{suites_of}

-- A login by keytab, a ticket for the service, and the cache with both.
abbrev pub cached_login : {F : Type 0} → ClientRecord → List Entry → List Bytes → Course F Cache
cached_login client keytab service = do
  granting ← login_by_keytab client Usual keytab
  ticket ← ticket_for client (suites_of Usual) granting service
  judged (λ refusal. refusal) (done (Ok (login_cache client (granting ∷ ticket ∷ []))))
