-- What a realm grants, in an AS or a TGS exchange (RFC 4120, sections 3.1.3, 3.3.3).
use Rattle.std.specs.Prelude.{◌≡◌, Result, Ok, Err}
use Rattle.picky_asn1.specs.Bytes.{Bytes}
use Rattle.krb_realm_accounts.specs.Account.{AccountRecord}
use Rattle.krb_messages.specs.RandomBytes.{Random}
use Rattle.krb_messages.specs.Refusals.{Code}
use Rattle.krb_messages.specs.declared.refusal.Refusal.{Refusal}
use Rattle.krb_messages.specs.declared.refusal.Refusal.TheVariants.{Krb, Memory}
use Rattle.decision_tables.specs.Tables.{Table, done, make}
use Rattle.krb_tickets.specs.Grant.{GrantRecord}
use Rattle.krb_tickets.specs.ReplyKeys.{ReplyKeyRecord}
use Rattle.krb_tickets.specs.Granted.{IsTicketReply, sole_ticket_reply}
use Rattle.krb_kdc_exchanges.specs.declared.granted.Granted.{Granted}
use Rattle.krb_kdc_exchanges.specs.declared.granted.GrantedTicket.{GrantedTicket}

-- the bytes are a reply that grants this ticket: the suites are those of the service's key and of the reply key, the times those of the
-- grant
pub record IsGrantedTicket (bytes : Bytes) (ticket : GrantedTicket) : Type 0 where
  pub grant : GrantRecord
  pub under : ReplyKeyRecord
  pub service : AccountRecord
  pub words : Random
  pub reply : IsTicketReply grant under service words bytes
  pub suite : ticket.suite ≡ service.suite
  pub reply_suite : ticket.reply_suite ≡ under.suite
  pub starts : ticket.span.starttime ≡ grant.starttime
  pub ends : ticket.span.endtime ≡ grant.endtime

-- unless memory runs out, the reply's bytes or the error code are the outcome of the table, and the ticket is the reply's
abbrev pub IsGranted : (Result Bytes Code → Type 0) → Result Granted Refusal → Type 0
IsGranted gives (Ok made) = gives (Ok made.reply.items) × IsGrantedTicket made.reply.items made.ticket
IsGranted gives (Err (Krb code)) = gives (Err code)
IsGranted gives (Err Memory) = Unit {0}

-- the one reply that grants a ticket, its own part sealed under the reply key
abbrev pub replied : GrantRecord → ReplyKeyRecord → AccountRecord → Random → Table (Result Bytes Code)
replied grant under service words =
    -- The reply has the ticket's part under the service's key, with its kvno, for key usage 2 (RFC 4120, sections 3.1.3, 3.3.3 and 5.3).
    -- Test: `as honest`, `tgs honest`.
    -- The reply has its own part under the reply key (RFC 4120, sections 3.1.3 and 3.3.3). Test: `as honest`, `tgs honest`.
    make (IsTicketReply grant under service words) (sole_ticket_reply grant under service words) (λ bytes.
    done (Ok bytes))
