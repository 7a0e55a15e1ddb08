use Rattle.std.proofs.Common.{◌∙◌, ap}
use Rattle.encryption_profiles.specs.Hmac.{fitted}
use Rattle.encryption_profiles.proofs.HmacLemmas.{key_block-long, key_block-short}
use Rattle.encryption_profiles.proofs.mac.block_of_key.Goals as goal

pub returns-then-key : goal.returns-then-key
returns-then-key g c =
    let hashed = c.finish.ensures _ (c.absorb.ensures _ c.begin-hasher.ensures) in
    c.filled.ensures ∙ ap (fitted g.row.B) hashed ∙ key_block-long g.H.BlockHash.digest_of g.row.B c.args.key.now c.if-key.true

pub returns-else-key : goal.returns-else-key
returns-else-key g c =
    c.filled-else-key.ensures ∙ key_block-short g.H.BlockHash.digest_of g.row.B c.args.key.now c.if-key.false
