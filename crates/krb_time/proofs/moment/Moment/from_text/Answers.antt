use Rattle.std.proofs.Common.{arith}
use Rattle.krb_time.proofs.moment.Moment.from_text.Goals as goal

pub returns : goal.returns
returns c = (c.in_ok-time.time, c.in_ok-time.ensures, omega (arith, c.at.ensures))
