use Rattle.std.proofs.Common.{rules}
use Rattle.krb_commands.proofs.Moments.{is_given}
use Rattle.krb_commands.proofs.arguments.Given.moment.Goals as goal

pub returns-in-Some-from_text-clause-ok : goal.returns-in-Some-from_text-clause-ok
returns-in-Some-from_text-clause-ok c =
    is_given _ _ c.in-Some.value.now _ _ c.in_ok-value.ensures.ok (search rules) c.as_bytes.ensures.value c.in-Some-from_text.ensures
