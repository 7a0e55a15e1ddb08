use Rattle.std.proofs.Common.{◌≡◌}
use Rattle.byte_streams.proofs.CloneLaws.{copies-seen}
use Rattle.negoex_messages.specs.contracts.extension.ExtensionLaid.TheImpl as extension
use Rattle.negoex_messages.proofs.nego.NegoClone.clone.Goals as goal

-- the same behind what is the same
both_same : {A B C : Type 0} (x : A) (b d : B) (c e : C) → d ≡ b → e ≡ c → ◌≡◌ {A = (A × B) × C} ((x, d), e) ((x, b), c)
both_same x b d c e p q = λ i. ((x, p i), q i)

pub returns : goal.returns
returns c = record {
  cases = both_same _ _ _ _ _ (copies-seen (λ s. s) _ _ c.in_ok-auth_schemes.ensures.cases.0)
      (copies-seen extension.ghosts.view _ _ c.in_ok-extensions.ensures.cases.0);
}
