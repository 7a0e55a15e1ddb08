use Rattle.std.proofs.Common.{◌≡◌, List, [], ◌∷◌, Option, Result, Ok, Err, ap, subst, sym}
use Rattle.std.specs.Result.{IsErrAnd}
use Rattle.decision_tables.specs.Tables.{Table, done}
use Rattle.picky_asn1.specs.Bytes.{Bytes}
use Rattle.krb_file_formats.specs.Caches.{Cache}
use Rattle.krb_realm_accounts.specs.Names.{parts}
use Rattle.krb_client.specs.Client.{ClientRecord, CredentialRecord}
use Rattle.krb_client_exchanges.specs.Courses.{Course, Runs, ◌>>=◌, judged}
use Rattle.krb_client_exchanges.specs.Events.{Event}
use Rattle.krb_client_exchanges.specs.LoginCaches.{login_cache}
use Rattle.krb_client_exchanges.specs.Logins.{ticket_for}
use Rattle.krb_client_exchanges.specs.Suites.{suites_of}
use Rattle.krb_client_exchanges.specs.declared.fault.ExchangeFault.{ExchangeFault}
use Rattle.krb_client_exchanges.specs.declared.fault.ExchangeFault.TheVariants.{Memory}
use Rattle.krb_client_exchanges.specs.declared.fault.LoginRefusal.{LoginRefusal}
use Rattle.krb_client_exchanges.specs.declared.wanted.Wanted.TheVariants.{Usual}
use Rattle.krb_client_exchanges.proofs.Running.{runs-exit, runs-judged, runs-then}
use Rattle.example_tickets.proofs.cache_by_keytab.Goals as goal

-- What follows after both tickets, and what after the first one.
abbrev cached : (F : Type 0) → ClientRecord → CredentialRecord → CredentialRecord → Course F Cache
cached F client granting ticket = judged {F = F} {E = LoginRefusal} (λ refusal. refusal) (done (Ok (login_cache client (granting ∷ ticket ∷ []))))

abbrev further : (F : Type 0) → ClientRecord → List Bytes → CredentialRecord → Course F Cache
further F client service granting = ticket_for {F = F} client (suites_of Usual) granting service >>= cached F client granting

-- Where memory runs out, the course ends without an event.
out_of_memory : {F A : Type 0} (table : Table (Result A LoginRefusal)) (before : Option (List (Event F))) (outcome : Result A (ExchangeFault F))
    → IsErrAnd outcome (λ own. own ≡ Memory) → Runs before before (judged {F = F} {E = LoginRefusal} (λ refusal. refusal) table) outcome
out_of_memory table before (Ok value) is = absurd is
out_of_memory {F = F} table before (Err own) is =
    subst (λ (fault : ExchangeFault F). Runs before before (judged {F = F} {E = LoginRefusal} (λ refusal. refusal) table) (Err fault)) (sym is)
    (runs-judged (λ refusal. refusal) table before (Err Memory) tt)

pub returns-in_err-granting : goal.returns-in_err-granting
returns-in_err-granting g c =
    runs-exit (further g.row.K-Fault.Denot c.args.client.now (parts c.args.service.now)) c.from_residual.result c.from_residual.ensures.1 c.in_err-granting.ensures

pub returns-in_err-ticket : goal.returns-in_err-ticket
returns-in_err-ticket g c =
    runs-then (further g.row.K-Fault.Denot c.args.client.now (parts c.args.service.now)) c.in_ok-granting.ensures
    (runs-exit (cached g.row.K-Fault.Denot c.args.client.now c.in_ok-granting.granting) c.from_residual-in_err-ticket.result c.from_residual-in_err-ticket.ensures.1
    c.in_err-ticket.ensures)

pub returns-in_err-cache : goal.returns-in_err-cache
returns-in_err-cache g c =
    runs-then (further g.row.K-Fault.Denot c.args.client.now (parts c.args.service.now)) c.in_ok-granting.ensures
    (runs-then (cached g.row.K-Fault.Denot c.args.client.now c.in_ok-granting.granting) c.in_ok-ticket.ensures
    (out_of_memory (done (Ok (login_cache c.args.client.now (c.in_ok-granting.granting ∷ c.in_ok-ticket.ticket ∷ [])))) _ c.from_residual-in_err-cache.result
    c.from_residual-in_err-cache.ensures.1))

pub returns : goal.returns
returns g c =
    runs-then (further g.row.K-Fault.Denot c.args.client.now (parts c.args.service.now)) c.in_ok-granting.ensures
    (runs-then (cached g.row.K-Fault.Denot c.args.client.now c.in_ok-granting.granting) c.in_ok-ticket.ensures
    (runs-judged (λ refusal. refusal) (done (Ok (login_cache c.args.client.now (c.in_ok-granting.granting ∷ c.in_ok-ticket.ticket ∷ [])))) _ (Ok c.in_ok-cache.cache)
    (ap Ok c.in_ok-cache.ensures)))
