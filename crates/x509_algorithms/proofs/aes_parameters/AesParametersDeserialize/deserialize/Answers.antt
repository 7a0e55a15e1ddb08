use Rattle.asn1_codec.proofs.Chain.{at-exit, refused-as}
use Rattle.x509_algorithms.specs.AesChoices.{aes_choice}
use Rattle.x509_algorithms.proofs.aes_parameters.AesParametersDeserialize.deserialize.Goals as goal

pub returns-in_err-choice : goal.returns-in_err-choice
returns-in_err-choice g c =
    at-exit _ _ _ _ c.from_residual.ensures.1
    (refused-as _ _ _ _ _ c.in_err-choice.ensures (λ bytes q. (aes_choice q.0, q.1)))
