use Rattle.std.proofs.Common.{rules}
use Rattle.encryption_profiles.specs.AesSuites.{aes_profile}
use Rattle.encryption_profiles.proofs.Sealed.{one_opening, one_string}
use Rattle.encryption_profiles.proofs.AesLaws.{aes_laws}
use Rattle.encryption_profiles.proofs.aes.sealing.encrypt_message.Goals as goal

pub returns-clause-only : goal.returns-clause-only
returns-clause-only c = λ b sealed.
    let size = c.args.aes_size.now in
    one_string (aes_profile size) (aes_laws size) _ _ _ _ b _ sealed (search rules)

pub returns-clause-one_text : goal.returns-clause-one_text
returns-clause-one_text c = λ d q sealed.
    let size = c.args.aes_size.now in
    one_opening (aes_profile size) (aes_laws size) c.args.key.now _ d q c.args.confounder c.args.payload.now _ sealed (search rules)
