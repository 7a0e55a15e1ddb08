use Rattle.krb_pac.proofs.NumberLaws.{u16-only, u32-only}
use Rattle.krb_pac.proofs.ndr.numbers.numbers_are_read.Goals as goal

pub returns : goal.returns
returns c = record { two = u16-only; four = u32-only }
