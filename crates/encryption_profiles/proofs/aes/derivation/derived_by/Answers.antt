use Rattle.std.proofs.Common.{◌≡◌, ◌+◌, ◌-◌, ◌/◌, ◌%◌, ◌∙◌, length, refl, ap, arith}
use Rattle.block_ciphers.specs.Aes.{aes_cipher}
use Rattle.encryption_profiles.proofs.AesDerivationLemmas.{derived_whole, iterated_ciphers-end, iterated_ciphers-more, key-whole, length-aes_cipher}
use Rattle.encryption_profiles.proofs.aes.derivation.derived_by.Goals as goal

pub loop-preserved : goal.loop-preserved
loop-preserved c =
    let before = c.loop.invariant in
    let key = c.args.key.now in
    let next = c.encrypt_block-block.ensures.under key before.expanded in
    let len : length c.encrypt_block-block.result ≡ 16 = ap length next ∙ length-aes_cipher key c.loop.block in
    let left : length key / 16 - c.loop.counter ≡ length key / 16 - (c.loop.counter + 1) + 1 = omega arith in
    record {
      expanded = before.expanded;
      block_sized = len;
      sized = omega (arith, len, c.in_ok-extend_from_slice.ensures.len);
      rest = rw c.in_ok-extend_from_slice.ensures.items
          (iterated_ciphers-more (aes_cipher key) c.loop.derived.items c.loop.block c.encrypt_block-block.result _ _ _ left next before.rest);
    }

pub returns-clause-derived : goal.returns-clause-derived
returns-clause-derived c =
    let before = c.loop.invariant in
    let key = c.args.key.now in
    let whole : length key % 16 ≡ 0 = key-whole key before.expanded.is_key in
    let none : length key / 16 - c.loop.counter ≡ 0 = omega arith in
    derived_whole key c.args.well_known.now c.loop.derived.items (length key) (length key / 16) refl (omega arith) (omega arith)
    (iterated_ciphers-end (aes_cipher key) c.loop.derived.items c.loop.block _ _ none before.rest)
