use Rattle.std.proofs.Common.{◌∙◌, ap}
use Rattle.block_ciphers.specs.Seeds.{random_to_key}
use Rattle.encryption_profiles.proofs.Des3DerivationLemmas.{key_from_octets}
use Rattle.encryption_profiles.proofs.des3.derivation.derive_key.Goals as goal

pub returns-clause-derived : goal.returns-clause-derived
returns-clause-derived c =
    key_from_octets c.args.key.now c.args.well_known.now _ _ c.in_ok-octets.ensures.derived (c.in_ok-derived.ensures.made ∙ ap random_to_key c.deref.ensures.value)
