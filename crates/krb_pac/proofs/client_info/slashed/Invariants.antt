use Rattle.std.proofs.Common.{◌≡◌, take}
use Rattle.krb_pac.specs.ClientInfo.{slashed}
use Rattle.krb_pac.proofs.client_info.slashed.Given as goal

abbrev pub invariant-loop-component : goal.invariant-loop-component
invariant-loop-component l = l.text.items ≡ slashed (take l.component-index l.components)
