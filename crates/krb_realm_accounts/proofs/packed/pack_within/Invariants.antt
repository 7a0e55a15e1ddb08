use Rattle.std.proofs.Common.{◌≡◌, ◌+◌, ◌++◌, map, take}
use Rattle.arrayvec.specs.ArrayVec.{array_vec_len}
use Rattle.krb_realm_accounts.proofs.packed.pack_within.Given as goal

-- the characters so far
abbrev pub invariant-loop-character : goal.invariant-loop-character
invariant-loop-character g l =
    (l.block.items ≡ l.fn.block.items ++ map (λ character. character + 1) (take l.character-index l.text))
    × (array_vec_len l.block ≡ array_vec_len l.fn.block + l.character-index)
