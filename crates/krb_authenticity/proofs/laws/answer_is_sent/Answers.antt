use Rattle.krb_authenticity.proofs.Answered.{answer_sent}
use Rattle.krb_authenticity.proofs.laws.answer_is_sent.Goals as goal

pub returns : goal.returns
returns c = answer_sent
