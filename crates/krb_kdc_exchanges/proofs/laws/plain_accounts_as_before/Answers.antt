use Rattle.krb_kdc_exchanges.specs.ChosenKeys.{one_choice}
use Rattle.krb_kdc_exchanges.proofs.PlainAccounts.{first_plain, further_plain, lifetime_plain}
use Rattle.krb_kdc_exchanges.proofs.laws.plain_accounts_as_before.Goals as goal

pub returns-clause-first : goal.returns-clause-first
returns-clause-first c = first_plain

pub returns-clause-further : goal.returns-clause-further
returns-clause-further c = further_plain

pub returns-clause-lifetime : goal.returns-clause-lifetime
returns-clause-lifetime c = lifetime_plain

pub returns-clause-key : goal.returns-clause-key
returns-clause-key c = one_choice
