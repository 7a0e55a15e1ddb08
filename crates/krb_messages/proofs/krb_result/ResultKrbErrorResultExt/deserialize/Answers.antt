use Rattle.asn1_codec.proofs.Chain.{at-exit, refused-as}
use Rattle.krb_messages.proofs.ChoiceLaws.{as-choice}
use Rattle.krb_messages.proofs.krb_result.ResultKrbErrorResultExt.deserialize.Goals as goal

pub returns-in_err-choice : goal.returns-in_err-choice
returns-in_err-choice g c =
    at-exit _ _ _ _ c.from_residual.ensures.1
    (refused-as _ _ _ _ _ c.in_err-choice.ensures (as-choice g.T.Serialize.tree))
