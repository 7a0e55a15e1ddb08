use Rattle.std.proofs.Common.{◌≡◌, take}
use Rattle.krb_client.specs.Requests.{etypes}
use Rattle.krb_client.proofs.kdc_request.etypes.Given as goal

-- the etypes so far
abbrev pub invariant-loop-suite : goal.invariant-loop-suite
invariant-loop-suite l = l.list.items ≡ etypes (take l.suite-index l.suites)
