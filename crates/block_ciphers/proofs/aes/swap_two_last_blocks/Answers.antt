use Rattle.block_ciphers.proofs.Blocks.{ends_exchanged}
use Rattle.block_ciphers.proofs.aes.swap_two_last_blocks.Goals as goal

pub returns-clause-swapped : goal.returns-clause-swapped
returns-clause-swapped c =
    λ long.
    let parts = c.split_at_mut-front.ensures in
    ends_exchanged c.args.data.now _ _ _ _ long parts.front parts.back c.swap_with_slice.ensures.after c.swap_with_slice.ensures.other_after
