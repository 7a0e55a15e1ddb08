use Rattle.std.proofs.Common.{◌≡◌, nat_le}
use Rattle.std.specs.List.{filter}
use Rattle.std.specs.BTreeSet.{btree_set_len}
use Rattle.krb_service.specs.Pair.{PairRecord}
use Rattle.krb_service.proofs.seen.forget.Given as goal

abbrev pub invariant-pairs : goal.invariant-pairs
invariant-pairs l = filter (λ (pair : PairRecord). nat_le l.oldest pair.time) l.fn.pairs.keys ≡ filter (λ (pair : PairRecord). nat_le l.oldest pair.time) l.pairs.keys

abbrev pub decreases-pairs : goal.decreases-pairs
decreases-pairs l = btree_set_len l.pairs
