-- What a message was answered.
use Rattle.std.specs.Prelude.{Result, Ok, Err}
use Rattle.krb_kdc_exchanges.specs.declared.granted.GrantedTicket.{GrantedTicket}
use Rattle.krb_messages.specs.Refusals.{Code}
use Rattle.krb_log.specs.declared.answer.Answer.{Answer}
use Rattle.krb_log.specs.declared.answer.Answer.TheVariants.{Ticket, Error}

-- what a reply of this outcome answers (RFC 4120, sections 5.4.2 and 5.9.1)
abbrev pub answer_of : Result GrantedTicket Code → Answer
answer_of (Ok ticket) = Ticket ticket
answer_of (Err code) = Error code
