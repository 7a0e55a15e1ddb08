use Rattle.gss_initiator.specs.Checksums.{initial_checksum, is_mutual}
use Rattle.gss_initiator.specs.Initiating.{sole_token_with}
use Rattle.gss_initiator.proofs.laws.one_first_token.Goals as goal

pub returns : goal.returns
returns c =
    λ client credential initial form moment words a b x y.
    sole_token_with client credential (initial_checksum initial) (is_mutual initial.flags) form moment words a b x y
