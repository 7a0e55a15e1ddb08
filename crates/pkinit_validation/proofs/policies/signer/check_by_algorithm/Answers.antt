use Rattle.std.proofs.Common.{Err, inr, refl}
use Rattle.decision_tables.specs.Tables.{done}
use Rattle.pkinit_validation.specs.GeneralTrust.{IsAlgorithm, sole_algorithm, verified_by}
use Rattle.pkinit_validation.specs.declared.refusal.TrustRefusal.TheVariants.{InvalidSignature}
use Rattle.pkinit_validation.proofs.PolicySignerLemmas.{outcome_ask}
use Rattle.pkinit_validation.proofs.policies.signer.check_by_algorithm.Goals as goal

pub returns-in_default : goal.returns-in_default
returns-in_default g c =
    let none = rw (c.in_default.is, c.signature_algorithm.ensures) at c.in_ok-algorithm.ensures in
    inr (none, refl)

pub returns : goal.returns
returns g c =
    let raw = c.args.content.now.info.content.0.signer_infos.0.signature_algorithm in
    let found : IsAlgorithm raw c.in-Some.algorithm = rw (c.in-Some.is, c.signature_algorithm.ensures) at c.in_ok-algorithm.ensures in
    outcome_ask (IsAlgorithm raw) (sole_algorithm raw) (done (Err InvalidSignature)) (verified_by (g.K.KeyFunctions.functions c.args.keys.now) c.args.certificate.now c.args.content.now)
    c.in-Some.algorithm c.check_verified-judged.result found c.check_verified-judged.ensures
