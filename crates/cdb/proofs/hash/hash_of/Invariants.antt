use Rattle.std.proofs.Common.{◌≡◌, drop}
use Rattle.cdb.specs.declared.format.TheConstants.{HASH_START}
use Rattle.cdb.specs.Hash.{hash_from}
use Rattle.cdb.proofs.hash.hash_of.Given as goal

abbrev pub invariant-loop-byte : goal.invariant-loop-byte
invariant-loop-byte l = hash_from l.hash (drop l.byte-index l.key) ≡ hash_from HASH_START l.key
