use Rattle.std.proofs.Common.{◌≡◌, drop, take}
use Rattle.arrayvec.specs.ArrayVec.{array_vec_len}
use Rattle.krb_realm_accounts.specs.Packed.{fit, fit_behind, packed}
use Rattle.krb_realm_files.proofs.account_file.pack.Given as goal

-- the block of the components so far, and what is left to fit
abbrev pub invariant-loop-component : goal.invariant-loop-component
invariant-loop-component l =
    (l.block.items ≡ packed (take l.component-index l.name)) × (fit l.name ≡ fit_behind 4096 (array_vec_len l.block) (drop l.component-index l.name))
