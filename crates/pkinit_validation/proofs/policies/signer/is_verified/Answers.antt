use Rattle.std.proofs.Common.{◌≡◌, ap, ◌∙◌}
use Rattle.x509_algorithms.specs.declared.algorithm_identifier.AlgorithmIdentifier.{AlgorithmIdentifier}
use Rattle.cms_signed_data.specs.declared.general_form.digest_algorithm.DigestAlgorithm.{DigestAlgorithm}
use Rattle.pkinit_validation.specs.GeneralTrust.{signature_under, verifies_by}
use Rattle.pkinit_validation.proofs.policies.signer.is_verified.Goals as goal

pub returns-in_default : goal.returns-in_default
returns-in_default g c =
    let algorithm = c.args.algorithm.now in
    let stays : algorithm ≡ signature_under c.digest_algorithm.result algorithm = rw c.in_default.is at c.in_ok-named.ensures in
    let under : algorithm ≡ signature_under c.args.content.now.algorithm algorithm =
    stays ∙ ap (λ (digest : DigestAlgorithm). signature_under digest algorithm) c.digest_algorithm.ensures in
    c.verifies.ensures ∙ ap (λ (a : AlgorithmIdentifier). verifies_by (g.K.KeyFunctions.functions c.args.keys.now) c.args.certificate.now c.args.content.now a) under

pub returns : goal.returns
returns g c =
    let algorithm = c.args.algorithm.now in
    let named : c.in-Some.named ≡ signature_under c.digest_algorithm.result algorithm = rw c.in-Some.is at c.in_ok-named.ensures in
    let under : c.in-Some.named ≡ signature_under c.args.content.now.algorithm algorithm =
    named ∙ ap (λ (digest : DigestAlgorithm). signature_under digest algorithm) c.digest_algorithm.ensures in
    c.verifies-verified.ensures ∙ ap (λ (a : AlgorithmIdentifier). verifies_by (g.K.KeyFunctions.functions c.args.keys.now) c.args.certificate.now c.args.content.now a) under
