use Rattle.std.proofs.Common.{sym, ◌∙◌}
use Rattle.pkinit_validation.proofs.PolicySignerLemmas.{verifies_by_itself, verifies_by_sha1}
use Rattle.pkinit_validation.proofs.policies.signer.verifies.Goals as goal

pub returns-then-is_by_sha1 : goal.returns-then-is_by_sha1
returns-then-is_by_sha1 g c =
    verifies_by_sha1 (g.K.KeyFunctions.functions c.args.keys.now) c.args.certificate.now c.args.content.now c.args.algorithm.now c.verifies_sha1.result
    c.covered-covered.result.now c.signature-signature.result.now c.covered-covered.ensures c.signature-signature.ensures c.verifies_sha1.ensures
    (sym c.is_by_sha1.ensures ∙ c.if-is_by_sha1.true)

pub returns : goal.returns
returns g c =
    verifies_by_itself (g.K.KeyFunctions.functions c.args.keys.now) c.args.certificate.now c.args.content.now c.args.algorithm.now c.verifies.result
    c.covered-covered.result.now c.signature-signature.result.now c.covered-covered.ensures c.signature-signature.ensures c.verifies.ensures
    (sym c.is_by_sha1.ensures ∙ c.if-is_by_sha1.false)
