use Rattle.std.proofs.Common.{◌≡◌, take}
use Rattle.gss_initiator.proofs.delegating.copies_of.Given as goal

-- the copies so far
abbrev pub invariant-loop-component : goal.invariant-loop-component
invariant-loop-component l = l.copies.items ≡ take l.component-index l.components
