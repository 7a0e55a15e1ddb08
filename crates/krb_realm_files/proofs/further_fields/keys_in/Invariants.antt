use Rattle.std.proofs.Common.{◌≡◌, ◌+◌, ◌-◌, ◌++◌, List, length}
use Rattle.krb_realm_accounts.specs.Account.{AccountKeyRecord, AreBefore}
use Rattle.krb_realm_files.specs.FurtherFields.{keys_in}
use Rattle.krb_realm_files.proofs.OlderKeys.{joined}
use Rattle.krb_realm_files.proofs.further_fields.keys_in.Given as goal

-- the keys so far, and what is left
abbrev pub invariant-loop : goal.invariant-loop
invariant-loop l = record {
  read : joined l.keys.items (keys_in (l.count - l.counter) l.below l.rest) ≡ keys_in l.count l.kvno l.octets;
  before : (more : List AccountKeyRecord) → AreBefore l.below more → AreBefore l.kvno (l.keys.items ++ more);
  counted : length l.keys.items + (l.count - l.counter) ≡ l.count;
}
