use Rattle.krb_messages.proofs.PrintedNames.{name-read, principal-read}
use Rattle.krb_messages.proofs.name_reading.printed_name_is_read.Goals as goal

pub returns-clause-name : goal.returns-clause-name
returns-clause-name c = name-read

pub returns-clause-realm : goal.returns-clause-realm
returns-clause-realm c = principal-read
