use Rattle.std.proofs.Common.{◌≡◌, ◌++◌, List, drop, take}
use Rattle.krb_realm_accounts.specs.Account.{AccountKeyRecord, AreBefore, are_falling}
use Rattle.krb_realm_accounts.proofs.account_key.are_falling.Given as goal

-- the keys so far, and those that are left
abbrev pub invariant-loop-own : goal.invariant-loop-own
invariant-loop-own l = record {
  value : are_falling l.below (drop l.own-index l.keys) ≡ are_falling l.kvno l.keys;
  before : (more : List AccountKeyRecord) → AreBefore l.below more → AreBefore l.kvno (take l.own-index l.keys ++ more);
}
