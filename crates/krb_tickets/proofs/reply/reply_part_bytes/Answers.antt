use Rattle.krb_tickets.specs.Sealed.{reply_part_bytes}
use Rattle.krb_tickets.proofs.reply.reply_part_bytes.Goals as goal

pub returns-in-As : goal.returns-in-As
unfolding reply_part_bytes
returns-in-As c = rw c.in-As.is c.tagged_encoding.ensures

pub returns-in-Tgs : goal.returns-in-Tgs
unfolding reply_part_bytes
returns-in-Tgs c = rw c.in-Tgs.is c.tagged_encoding-in-Tgs.ensures
