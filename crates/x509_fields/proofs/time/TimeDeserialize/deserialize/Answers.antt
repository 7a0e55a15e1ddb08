use Rattle.asn1_codec.proofs.Chain.{at-exit, refused-as}
use Rattle.x509_fields.specs.Times.{time_choice}
use Rattle.x509_fields.proofs.time.TimeDeserialize.deserialize.Goals as goal

pub returns-in_err-choice : goal.returns-in_err-choice
returns-in_err-choice g c =
    at-exit _ _ _ _ c.from_residual.ensures.1
    (refused-as _ _ _ _ _ c.in_err-choice.ensures (λ bytes q. (time_choice q.0, q.1)))

pub returns-in-This : goal.returns-in-This
returns-in-This g c = rw c.in-This.is at c.in_ok-choice.ensures

pub returns-in-Other : goal.returns-in-Other
returns-in-Other g c = rw c.in-Other.is at c.in_ok-choice.ensures
