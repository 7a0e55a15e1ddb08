use Rattle.rsa_keys.proofs.RightKeys.{own-signs}
use Rattle.rsa_keys.proofs.laws.right_key_signs.Goals as goal

pub returns : goal.returns
returns c = λ key text is right. own-signs c.args.own.now key is right text
