use Rattle.std.proofs.Common.{◌≡◌, ◌++◌, take}
use Rattle.krb_pac.specs.AuthorizationData.{pacs_of}
use Rattle.krb_pac.proofs.authorization_data.put_pacs.Given as goal

abbrev pub invariant-loop-element : goal.invariant-loop-element
invariant-loop-element l = l.pacs.items ≡ l.initial.pacs.items ++ pacs_of (take l.element-index l.elements)
