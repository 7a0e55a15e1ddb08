use Rattle.std.proofs.Common.{◌≡◌, ◌+◌, ◌++◌, map, take}
use Rattle.krb_realm_accounts.proofs.packed.pack.Given as goal

abbrev pub invariant-loop-character : goal.invariant-loop-character
invariant-loop-character l = l.block.items ≡ l.fn.block.items ++ map (λ character. character + 1) (take l.character-index l.text)
