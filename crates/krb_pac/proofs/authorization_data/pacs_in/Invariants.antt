use Rattle.std.proofs.Common.{drop}
use Rattle.krb_pac.proofs.ElementLaws.{HasSoFar}
use Rattle.krb_pac.proofs.authorization_data.pacs_in.Given as goal

-- the PACs so far, and what is left
abbrev pub invariant-loop-element : goal.invariant-loop-element
invariant-loop-element l = HasSoFar l.elements (drop l.element-index l.elements) l.pacs.items
