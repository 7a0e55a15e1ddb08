use Rattle.std.proofs.Common.{◌≡◌, is_some, take}
use Rattle.std.specs.List.{filter}
use Rattle.krb_client_exchanges.specs.SharedKeys.{newest_key}
use Rattle.krb_client_exchanges.proofs.secret.keytab_suites.Given as goal

-- the suites so far
abbrev pub invariant-loop-suite : goal.invariant-loop-suite
invariant-loop-suite l = l.suites.items ≡ filter (λ suite. is_some (newest_key l.client suite l.keytab)) (take l.suite-index l.suite-items)
