use Rattle.rsa_keys.proofs.Verified.{signed_valid}
use Rattle.rsa_keys.proofs.laws.signed_is_verified.Goals as goal

pub returns : goal.returns
returns c = signed_valid c.args.own.now
