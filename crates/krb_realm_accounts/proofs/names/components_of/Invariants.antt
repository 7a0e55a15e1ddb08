use Rattle.std.proofs.Common.{◌≡◌, take}
use Rattle.krb_realm_accounts.specs.Names.{parts}
use Rattle.krb_realm_accounts.proofs.names.components_of.Given as goal

-- the components so far
abbrev pub invariant-loop-component : goal.invariant-loop-component
invariant-loop-component l = l.components.items ≡ parts (take l.component-index l.name)
