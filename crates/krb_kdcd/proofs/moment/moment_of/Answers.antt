use Rattle.std.proofs.Common.{rules}
use Rattle.krb_kdcd.proofs.Moments.{is_given}
use Rattle.krb_kdcd.proofs.moment.moment_of.Goals as goal

pub returns-in-Some-from_text-clause-given : goal.returns-in-Some-from_text-clause-given
returns-in-Some-from_text-clause-given c =
    is_given _ c.in-Some.named.now _ _ (search rules) c.as_bytes.ensures.value c.in-Some-from_text.ensures
