use Rattle.std.proofs.Common.{◌∙◌}
use Rattle.public_key_cryptography.proofs.Signing.{right-signs}
use Rattle.public_key_cryptography.proofs.private_key.PrivateKey.sign.Goals as goal

pub returns-clause-right : goal.returns-clause-right
returns-clause-right c = λ right. c.unless_wrong.ensures.made ∙ right-signs c.args.self.now c.args.hash c.args.message.now right
