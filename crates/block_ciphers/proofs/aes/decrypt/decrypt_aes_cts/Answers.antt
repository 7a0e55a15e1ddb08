use Rattle.std.proofs.Common.{sym, arith, lit<}
use Rattle.block_ciphers.specs.Aes.{aes_cipher}
use Rattle.block_ciphers.specs.Chains.{IsChained}
use Rattle.block_ciphers.proofs.Stealing.{length-stolen, filled_already}
use Rattle.block_ciphers.proofs.aes.decrypt.decrypt_aes_cts.Goals as goal

pub returns-then-cipher_data-eq-AES_BLOCK_SIZE-clause-only : goal.returns-then-cipher_data-eq-AES_BLOCK_SIZE-clause-only
returns-then-cipher_data-eq-AES_BLOCK_SIZE-clause-only c =
    λ q bytes many stolen.
    let E = aes_cipher c.args.key.now in
    let same = length-stolen 16 E q c.args.cipher_data.now (lit< tt) many stolen in
    let chained : IsChained 16 E q c.args.cipher_data.now = rw (filled_already 16 q (omega arith)) at (stolen.short (omega arith)) in
    c.in_ok-text.ensures.only q bytes chained

pub returns-clause-only : goal.returns-clause-only
returns-clause-only c =
    λ q bytes many stolen.
    c.in_ok-text-2.ensures.text.1 q bytes (sym (length-stolen 16 (aes_cipher c.args.key.now) q c.args.cipher_data.now (lit< tt) many stolen)) stolen
