use Rattle.std.proofs.Common.{◌≡◌, ℕ, List, ◌-◌}
use Rattle.encryption_profiles.specs.Hmac.{hmac_of, key_block, xored_with}
use Rattle.encryption_profiles.specs.Pbkdf2.{iterate, sum_of_iterates}
use Rattle.encryption_profiles.proofs.pbkdf2.block.Given as goal

abbrev pub invariant-loop : goal.invariant-loop
invariant-loop g l = record {
  last_is : (password : List ℕ) → g.H.BlockHash.holds l.inner (xored_with 0x36 (key_block g.H.BlockHash.digest_of g.row.B password))
      → g.H.BlockHash.holds l.outer (xored_with 0x5C (key_block g.H.BlockHash.digest_of g.row.B password))
      → l.last ≡ iterate (hmac_of g.H.BlockHash.digest_of g.row.B password) (l.counter - 1) l.initial.last;
  sum_is : (password : List ℕ) → g.H.BlockHash.holds l.inner (xored_with 0x36 (key_block g.H.BlockHash.digest_of g.row.B password))
      → g.H.BlockHash.holds l.outer (xored_with 0x5C (key_block g.H.BlockHash.digest_of g.row.B password))
      → l.sum ≡ sum_of_iterates (hmac_of g.H.BlockHash.digest_of g.row.B password) (l.counter - 1) l.initial.last;
}
