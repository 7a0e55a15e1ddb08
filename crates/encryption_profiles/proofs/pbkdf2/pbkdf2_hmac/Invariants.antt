use Rattle.std.proofs.Common.{◌≡◌, ◌*◌, vec_len}
use Rattle.encryption_profiles.specs.Hmac.{hmac_of}
use Rattle.encryption_profiles.specs.Pbkdf2.{blocks_of}
use Rattle.encryption_profiles.proofs.pbkdf2.pbkdf2_hmac.Given as goal

abbrev pub invariant-loop-done : goal.invariant-loop-done
invariant-loop-done g l = record {
  blocks : l.bytes.items ≡ blocks_of (hmac_of g.H.BlockHash.digest_of g.row.B l.password) l.salt l.rounds l.done;
  sized : vec_len l.bytes ≡ g.row.N * l.done;
}
