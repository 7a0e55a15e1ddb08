use Rattle.rsa_keys.proofs.Shared.{ours_of_group, theirs_of_group}
use Rattle.rsa_keys.proofs.laws.reply_in_group.Goals as goal

pub returns : goal.returns
returns c = λ theirs ours words secret e f. (theirs_of_group c.args.group theirs words secret e, ours_of_group c.args.group words ours f)
