use Rattle.std.proofs.Common.{sym, ap, ◌∙◌}
use Rattle.std.specs.Prelude.{Option, unwrap_or}
use Rattle.x509_algorithms.specs.declared.algorithm_identifier.AlgorithmIdentifier.{AlgorithmIdentifier}
use Rattle.pkinit_validation.proofs.PolicySignerLemmas.{under_other, under_rsa}
use Rattle.pkinit_validation.proofs.policies.signer.named_under.Goals as goal

pub returns-then-not-is_rsa_encryption : goal.returns-then-not-is_rsa_encryption
returns-then-not-is_rsa_encryption c =
    sym (under_other c.args.digest c.args.algorithm.now (sym c.is_rsa_encryption.ensures ∙ c.if-not-is_rsa_encryption.true))

pub returns : goal.returns
returns c =
    ap (λ (named : Option AlgorithmIdentifier). unwrap_or named c.args.algorithm.now) c.in_ok-beside.ensures
    ∙ sym (under_rsa c.args.digest c.args.algorithm.now (sym c.is_rsa_encryption.ensures ∙ c.if-not-is_rsa_encryption.false))
