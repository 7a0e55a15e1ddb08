use Rattle.std.proofs.Common.{inr, refl}
use Rattle.krb_realm_files.proofs.means.of_holder.Goals as goal

pub returns-else-is_public_part : goal.returns-else-is_public_part
returns-else-is_public_part c = inr (refl, (c.in-Ok.own, c.in-Ok.is, rw c.if-is_public_part.false at c.is_public_part.ensures))
