use Rattle.std.proofs.Common.{rules}
use Rattle.krb_commands.proofs.Named.{any_usage}
use Rattle.krb_commands.proofs.arguments.unnamed.Goals as goal

pub returns-in_default : goal.returns-in_default
returns-in_default c = record { memory = search rules; usage = search (rules, any_usage) }
