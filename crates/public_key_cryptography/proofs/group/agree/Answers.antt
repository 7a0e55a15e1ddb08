use Rattle.std.proofs.Common.{ℕ, ◌<◌, List, get_or, subst}
use Rattle.public_key_cryptography.proofs.Secrets.{one-secret}
use Rattle.public_key_cryptography.proofs.group.agree.Goals as goal

pub returns : goal.returns
returns c = λ ours theirs inside theirs_inside. one-secret c.args.group ours theirs (λ k. subst (λ (xs : List ℕ). get_or xs k 0 < 256) c.prime.ensures (c.are_octets.ensures k)) inside theirs_inside
