use Rattle.rsa_keys.proofs.Shared.{agrees}
use Rattle.rsa_keys.proofs.laws.one_secret.Goals as goal

pub returns : goal.returns
returns c = λ ours theirs our_value their_value. agrees c.args.group ours theirs our_value their_value (c.agree.ensures ours theirs)
