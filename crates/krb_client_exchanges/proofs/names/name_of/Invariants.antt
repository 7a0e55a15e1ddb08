use Rattle.std.proofs.Common.{◌≡◌, take}
use Rattle.krb_realm_accounts.specs.Names.{parts}
use Rattle.krb_client_exchanges.proofs.names.name_of.Given as goal

-- the components so far
abbrev pub invariant-loop-component : goal.invariant-loop-component
invariant-loop-component l = parts l.name.items ≡ take l.component-index l.components
