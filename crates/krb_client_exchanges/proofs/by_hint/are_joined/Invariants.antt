use Rattle.std.proofs.Common.{◌≡◌, nat_eq, drop}
use Rattle.std.specs.Cmp.Lexicographic.{pointwise}
use Rattle.std.specs.List.{flat_map}
use Rattle.krb_realm_accounts.specs.Names.{parts}
use Rattle.krb_client_exchanges.proofs.by_hint.are_joined.Given as goal

-- the rest is the components that are left if the octets are all components
abbrev pub invariant-loop-component : goal.invariant-loop-component
invariant-loop-component l = pointwise nat_eq l.rest (flat_map (λ component. component) (parts (drop l.component-index l.name)))
    ≡ pointwise nat_eq l.octets (flat_map (λ component. component) (parts l.name))
