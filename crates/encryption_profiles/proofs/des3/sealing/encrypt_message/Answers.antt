use Rattle.std.proofs.Common.{rules}
use Rattle.encryption_profiles.proofs.Sealed.{one_opening, one_string}
use Rattle.encryption_profiles.specs.Suite.{des3_profile}
use Rattle.encryption_profiles.proofs.Des3Laws.{des3_laws}
use Rattle.encryption_profiles.proofs.des3.sealing.encrypt_message.Goals as goal

pub returns-clause-only : goal.returns-clause-only
returns-clause-only c = λ b sealed. one_string des3_profile des3_laws _ _ _ _ b _ sealed (search rules)

pub returns-clause-one_text : goal.returns-clause-one_text
returns-clause-one_text c = λ d q sealed.
    one_opening des3_profile des3_laws c.args.key.now _ d q c.args.confounder c.args.payload.now _ sealed (search rules)
