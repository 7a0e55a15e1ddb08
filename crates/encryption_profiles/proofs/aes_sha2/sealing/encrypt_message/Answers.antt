use Rattle.std.proofs.Common.{rules}
use Rattle.encryption_profiles.proofs.Sealed.{one_opening, one_string}
use Rattle.encryption_profiles.specs.AesSha2Suites.{aes_sha2_profile}
use Rattle.encryption_profiles.proofs.Sha2Laws.{aes_sha2_laws}
use Rattle.encryption_profiles.proofs.aes_sha2.sealing.encrypt_message.Goals as goal

pub returns-clause-only : goal.returns-clause-only
returns-clause-only c = λ b sealed.
    let size = c.args.aes_size.now in
    one_string (aes_sha2_profile size) (aes_sha2_laws size) _ _ _ _ b _ sealed (search rules)

pub returns-clause-one_text : goal.returns-clause-one_text
returns-clause-one_text c = λ d q sealed.
    let size = c.args.aes_size.now in
    one_opening (aes_sha2_profile size) (aes_sha2_laws size) c.args.key.now _ d q c.args.confounder c.args.payload.now _ sealed (search rules)
