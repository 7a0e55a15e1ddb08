use Rattle.std.proofs.Common.{ap, inl, inr}
use Rattle.std.specs.Prelude.{Result, Err, List, ℕ}
use Rattle.byte_streams.proofs.Exits.{at-exit}
use Rattle.krb_pac.specs.declared.error.PacFault.{PacFault}
use Rattle.krb_pac.proofs.VerifiedLaws.{found-sole}
use Rattle.krb_pac.proofs.authorization_data.find_pac.Goals as goal

pub returns-in_err-pacs : goal.returns-in_err-pacs
returns-in_err-pacs c =
    at-exit _ _ _ _ c.from_residual.ensures.1
    (elim c.in_err-pacs.ensures [
      | inl memory ↦ inl memory
      | inr none ↦ inr (inr (ap (λ (f : PacFault). let r : Result (List ℕ) PacFault = Err f in r) none.0, none.1))
    ])

pub returns : goal.returns
returns c = found-sole (λ pac. pac.items) c.args.elements.now c.in_ok-pacs.pacs.items _ c.in_ok-pacs.ensures c.sole_pac.ensures
