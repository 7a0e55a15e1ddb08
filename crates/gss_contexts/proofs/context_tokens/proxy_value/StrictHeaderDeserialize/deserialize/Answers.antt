use Rattle.asn1_codec.proofs.Chain.{at-exit, refused-as}
use Rattle.gss_contexts.proofs.context_tokens.proxy_value.StrictHeaderDeserialize.deserialize.Goals as goal

pub returns-in_err-row : goal.returns-in_err-row
returns-in_err-row g c =
    at-exit _ _ _ _ c.from_residual.ensures.1
    (refused-as _ _ _ _ _ c.in_err-row.ensures (λ bytes (v, writes). ((v.0.target_realm, (v.0.cookie, (v.0.flags, tt))), writes)))
