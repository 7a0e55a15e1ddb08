use Rattle.std.proofs.Common.{sym, ◌∙◌}
use Rattle.pkinit_validation.specs.PolicyRows.{same_offer}
use Rattle.pkinit_validation.specs.Trust.{trust_of}
use Rattle.pkinit_validation.proofs.policies.general.PolicyPkinitPkinit.is_offered.Goals as goal

pub returns : goal.returns
returns g c =
    c.is_offered.ensures
    ∙ sym (same_offer c.args.self.now.policy (trust_of c.args.self.now.own.anchor c.args.self.now.own.certificate) (g.K.KeyFunctions.functions c.args.self.now.own.keys.now))
