-- How often one moment is handed in.
use Rattle.std.proofs.Common.{◌≡◌, ℕ}
use Rattle.krb_frames.specs.Moments.{most_messages}

pub is_most : (n : ℕ) → n ≡ 18446744073709551615 → n ≡ most_messages
unfolding most_messages
is_most n e = e
