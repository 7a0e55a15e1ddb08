use Rattle.std.proofs.Common.{◌≡◌, drop, take}
use Rattle.arrayvec.specs.ArrayVec.{array_vec_len}
use Rattle.krb_realm_accounts.specs.Packed.{fit_behind, fit_in, packed}
use Rattle.krb_realm_accounts.specs.Names.{parts}
use Rattle.krb_realm_accounts.proofs.accounts.pack_parts.Given as goal

-- the block of the components so far, and what is left to fit
abbrev pub invariant-loop-component : goal.invariant-loop-component
invariant-loop-component g l =
    (l.block.items ≡ packed (parts (take l.component-index l.name)))
    × (fit_in g.row.N (parts l.name) ≡ fit_behind g.row.N (array_vec_len l.block) (parts (drop l.component-index l.name)))
