use Rattle.std.proofs.Common.{◌∙◌}
use Rattle.encryption_profiles.proofs.Des3DerivationLemmas.{password_key_from_parts}
use Rattle.encryption_profiles.proofs.des3.derivation.derive_key_from_password.Goals as goal

pub returns-clause-derived : goal.returns-clause-derived
returns-clause-derived c =
    password_key_from_parts c.args.password.now c.args.salt.now _ _ c.random_to_key-key.result _ (c.deref.ensures.value ∙ c.in_ok-secret.ensures.joined) (c.deref-2.ensures.value ∙ c.in_ok-seed.ensures.folded)
    c.random_to_key-key.ensures.is_key c.in_ok-derived.ensures.derived
