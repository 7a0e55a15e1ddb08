use Rattle.rsa_keys.proofs.agreement.theirs_in.Goals as goal

pub returns-in-Whole : goal.returns-in-Whole
returns-in-Whole c = rw c.in-Whole.is c.whole_in.ensures

pub returns-in-Bits : goal.returns-in-Bits
returns-in-Bits c = rw c.in-Bits.is c.bits_in.ensures
