-- How a client was authenticated, and the reply key that follows from it.
use Rattle.std.specs.Prelude.{Result, Ok, Err}
use Rattle.krb_realm_accounts.specs.Account.{AccountRecord}
use Rattle.krb_messages.specs.declared.refusal.Refusal.{Refusal}
use Rattle.krb_tickets.specs.ReplyKeys.{ReplyKeyRecord, agreed_reply_key, as_reply_key}
use Rattle.krb_kdc_exchanges.specs.declared.as_exchange.judge.Preauthentication.{Preauthentication}
use Rattle.krb_kdc_exchanges.specs.declared.as_exchange.judge.Preauthentication.TheVariants.{ByTimestamp, ByCertificate}

-- the reply key of a client that was authenticated so
abbrev pub reply_key_by : AccountRecord → Preauthentication → ReplyKeyRecord
reply_key_by client ByTimestamp = as_reply_key client
reply_key_by client (ByCertificate key reply) = agreed_reply_key key.suite key.bytes reply.items

-- the reply key, or the refusal
abbrev pub reply_key_as : AccountRecord → Result Preauthentication Refusal → Result ReplyKeyRecord Refusal
reply_key_as client (Ok authenticated) = Ok (reply_key_by client authenticated)
reply_key_as client (Err refusal) = Err refusal
