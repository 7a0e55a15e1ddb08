-- The text of an entry: exchange, client, service, answer, the client's means and the reason, with a blank between them.
use Rattle.std.specs.Prelude.{ℕ, List, [], ◌++◌, codes, Option, None, Some, string_bytes, String}
use Rattle.std.specs.Global.{Global}
use Rattle.std.specs.Fmt.{decimal}
use Rattle.krb_crypto.specs.Suites.{cipher_number}
use Rattle.krb_constants.specs.ErrorNames.{error_name}
use Rattle.krb_frames.specs.declared.fault.AnswerRefusal.{AnswerRefusal}
use Rattle.krb_kdc_exchanges.specs.declared.granted.GrantedTicket.{GrantedTicket}
use Rattle.krb_frames.specs.declared.fault.AnswerRefusal.TheVariants.{Unreadable, Memory, Accounts}
use Rattle.krb_log.specs.declared.answer.Answer.{Answer}
use Rattle.krb_log.specs.declared.answer.Answer.TheVariants.{Ticket, Error, Refused}
use Rattle.krb_log.specs.declared.asked.Asked.{Asked}
use Rattle.krb_log.specs.declared.asked.Asked.TheVariants.{As, Tgs, Nothing}
use Rattle.krb_log.specs.declared.asked.Means.{Means}
use Rattle.krb_log.specs.declared.asked.Means.TheVariants as means
use Rattle.krb_log.specs.declared.asked.Means.TheVariants.{Pkinit, Password}
use Rattle.krb_log.specs.Reasons.{reason_text}
use Rattle.krb_log.specs.declared.entry.Entry.{Entry}
use Rattle.krb_log.specs.declared.reason.Reason.{Reason}

-- a name, or a dash in its place
abbrev pub shown_or_dash : Option (String Global) → List ℕ
shown_or_dash None = codes "-"
shown_or_dash (Some text) = string_bytes text

-- the exchange that was asked for, or a dash
abbrev pub exchange_text : Asked → List ℕ
exchange_text (As names) = codes "AS"
exchange_text (Tgs names) = codes "TGS"
exchange_text Nothing = codes "-"

-- the client, or a dash
abbrev pub asked_client : Asked → List ℕ
asked_client (As names) = shown_or_dash names.client
asked_client (Tgs names) = shown_or_dash names.client
asked_client Nothing = codes "-"

-- the service that was asked for, or a dash
abbrev pub asked_service : Asked → List ℕ
asked_service (As names) = shown_or_dash names.service
asked_service (Tgs names) = shown_or_dash names.service
asked_service Nothing = codes "-"

-- the encryption types of the ticket and of the reply's part
abbrev pub granted_text : GrantedTicket → List ℕ
granted_text ticket = codes "ticket=" ++ decimal (cipher_number ticket.suite) ++ codes " reply=" ++ decimal (cipher_number ticket.reply_suite)

abbrev pub name_or_number : ℕ → Option (List ℕ) → List ℕ
name_or_number code None = decimal code
name_or_number code (Some name) = name

-- the name of an error, or its number
abbrev pub code_text : ℕ → List ℕ
code_text code = name_or_number code (error_name code)

-- the word for a refusal to answer
abbrev pub refusal_text : AnswerRefusal → List ℕ
refusal_text Unreadable = codes "no-request"
refusal_text Memory = codes "no-memory"
refusal_text Accounts = codes "no-accounts"

abbrev pub answer_text : Answer → List ℕ
answer_text (Ticket ticket) = granted_text ticket
answer_text (Error code) = codes "error=" ++ code_text code
answer_text (Refused refusal) = refusal_text refusal

-- how the client of an AS request authenticates itself
abbrev pub means_text : Means → List ℕ
means_text Pkinit = codes "pkinit"
means_text Password = codes "password"
means_text means.Nothing = codes "none"

-- how the client authenticates itself: in a TGS request by its ticket
abbrev pub by_text : Asked → List ℕ
by_text (As names) = means_text names.means
by_text (Tgs names) = codes "ticket"
by_text Nothing = codes "-"

-- the reason between quotation marks
abbrev pub reason_part : Option Reason → List ℕ
reason_part None = []
reason_part (Some reason) = codes " reason=\"" ++ reason_text reason ++ codes "\""

-- how the client authenticates itself, and the reason
abbrev pub means_part : List ℕ → Option Reason → List ℕ
means_part by reason = codes "by=" ++ by ++ reason_part reason

-- An entry's text.
abbrev pub entry_text : Entry → List ℕ
entry_text entry =
    exchange_text entry.asked ++ codes " " ++ asked_client entry.asked ++ codes " " ++ asked_service entry.asked
    ++ codes " " ++ answer_text entry.answer ++ codes " " ++ means_part (by_text entry.asked) entry.reason
