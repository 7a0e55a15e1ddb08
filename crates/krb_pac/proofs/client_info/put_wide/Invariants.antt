use Rattle.std.proofs.Common.{◌≡◌, ◌++◌, take}
use Rattle.krb_pac.proofs.client_info.put_wide.Given as goal

abbrev pub invariant-loop-octet : goal.invariant-loop-octet
invariant-loop-octet l = l.text.items ≡ l.initial.text.items ++ take l.octet-index l.octets
