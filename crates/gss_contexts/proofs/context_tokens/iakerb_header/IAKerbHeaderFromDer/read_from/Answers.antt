use Rattle.asn1_codec.proofs.Chain.{at-exit, refused-as}
use Rattle.gss_contexts.proofs.context_tokens.iakerb_header.IAKerbHeaderFromDer.read_from.Goals as goal

pub returns-in_err-target_realm : goal.returns-in_err-target_realm
returns-in_err-target_realm g c =
    at-exit _ _ _ _ c.from_residual.ensures.1
    (refused-as _ _ _ _ _ c.in_err-target_realm.ensures (λ bytes (v, read). ((v.target_realm, v.cookie.0, v.flags.0), read)))

pub returns : goal.returns
returns g c = c.in_ok-target_realm.ensures
