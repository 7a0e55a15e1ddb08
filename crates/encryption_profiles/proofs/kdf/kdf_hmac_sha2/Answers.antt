use Rattle.std.proofs.Common.{◌∙◌, take, ap}
use Rattle.encryption_profiles.specs.Kdf.{kdf_of}
use Rattle.encryption_profiles.proofs.kdf.kdf_hmac_sha2.Goals as goal

pub returns-clause-derived : goal.returns-clause-derived
unfolding kdf_of
returns-clause-derived g c =
    let message = c.deref.ensures.value in
    let code = rw (message, c.in_ok-extend_from_slice.ensures.items, c.in_ok-message.ensures.items, c.end_of_message.ensures) at c.hmac-code.ensures in
    c.in_ok-derived.ensures.items ∙ ap (take c.args.size) code
