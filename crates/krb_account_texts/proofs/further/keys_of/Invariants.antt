use Rattle.krb_account_texts.specs.Reading.{older_in}
use Rattle.krb_account_texts.proofs.Loops.{IsSoFar}
use Rattle.krb_account_texts.proofs.further.keys_of.Given as goal

-- the keys so far
abbrev pub invariant-loop-index : goal.invariant-loop-index
invariant-loop-index l = IsSoFar older_in (λ field. field.now) l.fields l.index l.keys.items
