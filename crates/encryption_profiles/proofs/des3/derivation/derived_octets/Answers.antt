use Rattle.std.proofs.Common.{◌∙◌, arith}
use Rattle.block_ciphers.specs.Des.{triple_des_cipher}
use Rattle.encryption_profiles.proofs.Des3DerivationLemmas.{octets_from_parts}
use Rattle.encryption_profiles.proofs.des3.derivation.derived_octets.Goals as goal

pub returns-clause-derived : goal.returns-clause-derived
returns-clause-derived c =
    octets_from_parts (triple_des_cipher c.args.key.now) c.args.well_known.now _ _ c.deref.result.now _ _ c.in_ok-start.ensures.folded c.in_ok-start.ensures.sized c.in_ok-start.start.ok.0
    (c.deref.ensures.value ∙ c.in_ok-resize.ensures.items) (c.in_ok-octets.ensures.whole (omega (arith, c.deref.ensures.len, c.in_ok-resize.ensures.len))) c.truncate.ensures.items
