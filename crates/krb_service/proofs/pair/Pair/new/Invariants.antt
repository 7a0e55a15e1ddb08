use Rattle.std.proofs.Common.{◌≡◌, ◌∷◌, take}
use Rattle.krb_realm_accounts.specs.Packed.{packed}
use Rattle.krb_service.proofs.pair.Pair.new.Given as goal

abbrev pub invariant-loop-component : goal.invariant-loop-component
invariant-loop-component l = l.client.items ≡ packed (l.realm ∷ take l.component-index l.components)
