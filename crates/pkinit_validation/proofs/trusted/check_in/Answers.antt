use Rattle.std.proofs.Common.{refl, inr}
use Rattle.pkinit_validation.proofs.TrustLemmas.{none_found, judged_in}
use Rattle.pkinit_validation.specs.Expected.{expected_of}
use Rattle.pkinit_validation.specs.Judged.{judged_of}
use Rattle.pkinit_validation.specs.declared.refusal.TrustRefusal.TheVariants.{CantVerifyCertificate}
use Rattle.pkinit_validation.proofs.trusted.check_in.Goals as goal

pub returns-in_default : goal.returns-in_default
returns-in_default g c = inr (none_found g.T.Spelled.spells _ _ _ c.in_ok-value.ensures c.in_default.is refl, refl)

pub returns : goal.returns
returns g c =
    judged_in g.T.Spelled.spells _ _ CantVerifyCertificate
    (g.T.Judges.judged_by (g.K.KeyFunctions.functions c.args.keys.now) (expected_of c.args.expected.now) (judged_of c.args.judged.now))
    _ c.in-Some.value c.in-Some.signed c.in_ok-value.ensures c.in-Some.is refl _ c.check.ensures
