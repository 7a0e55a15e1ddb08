use Rattle.pkinit_clients.proofs.VerifiedParts.{verified_part}
use Rattle.pkinit_clients.proofs.laws.reply_verified_is_part.Goals as goal

pub returns : goal.returns
returns c = verified_part
