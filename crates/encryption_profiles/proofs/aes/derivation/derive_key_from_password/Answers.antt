use Rattle.std.proofs.Common.{◌∙◌, ap}
use Rattle.block_ciphers.specs.AesSize.{key_length_of}
use Rattle.encryption_profiles.specs.Pbkdf2.{pbkdf2_hmac_sha1_of}
use Rattle.encryption_profiles.specs.declared.aes.derivation.TheConstants.{AES_ITERATIONS}
use Rattle.encryption_profiles.proofs.AesDerivationLemmas.{password_key_from_parts}
use Rattle.encryption_profiles.proofs.aes.derivation.derive_key_from_password.Goals as goal

pub returns-clause-derived : goal.returns-clause-derived
returns-clause-derived c =
    let password = c.args.password.now in
    let salt = c.args.salt.now in
    let seed = c.deref-2.ensures.value ∙ c.in_ok-seed-2.ensures ∙ c.deref.ensures.value ∙ c.in_ok-seed.ensures.derived
    ∙ ap (λ size. pbkdf2_hmac_sha1_of password salt AES_ITERATIONS size) c.key_length.ensures in
    password_key_from_parts (key_length_of c.args.aes_size.now) password salt _ _ seed c.in_ok-key.ensures.derived
