-- What is known of what is given.
use Rattle.std.proofs.Common.{◌≡◌, Result, Ok, inl, inr}
use Rattle.gss_acceptor.specs.Concluding.{IsGiven}
use Rattle.gss_acceptor.specs.declared.accepted.Accepted.{Accepted}
use Rattle.gss_acceptor.specs.declared.refusal.AcceptRefusal.{AcceptRefusal}

pub same_ok : {A : Type 0} (a b : A) → ◌≡◌ {A = Result A AcceptRefusal} (Ok a) (Ok b) → a ≡ b
same_ok a b e = cc (e)

pub given : (accepted expected : Accepted) → IsGiven expected (Ok accepted) → accepted ≡ expected
given accepted expected (inl never) = absurd (cc (never))
given accepted expected (inr same) = same_ok accepted expected same
