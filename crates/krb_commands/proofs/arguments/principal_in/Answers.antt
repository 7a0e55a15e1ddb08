use Rattle.krb_commands.proofs.Named.{unnamed_as}
use Rattle.krb_messages.specs.NameReading.{principal_in}
use Rattle.krb_commands.proofs.arguments.principal_in.Goals as goal

pub returns-in-Err-clause-err : goal.returns-in-Err-clause-err
returns-in-Err-clause-err c = unnamed_as (principal_in c.args.argument.now) c.in-Err.fault c.unnamed.result c.in-Err.ensures.refusal c.unnamed.ensures.memory c.unnamed.ensures.usage
