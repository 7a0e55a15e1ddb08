use Rattle.asn1_codec.proofs.Chain.{at-exit, refused-as}
use Rattle.gss_contexts.specs.contracts.context_tokens.proxy_value.StrictHeaderSerialize.TheImpl as header
use Rattle.gss_contexts.specs.ProxyValues.{proxy_row}
use Rattle.gss_contexts.proofs.ProxyLemmas.{proxy-refused}
use Rattle.gss_contexts.proofs.context_tokens.proxy_value.IAKerbProxyMessageTagged.read_row.Goals as goal

pub returns-in_err-row : goal.returns-in_err-row
returns-in_err-row g c =
    at-exit _ _ _ _ c.from_residual.ensures.1 (refused-as _ _ _ _ _ c.in_err-row.ensures (λ bytes q. (proxy_row q.0, q.1)))

pub returns-in-Err : goal.returns-in-Err
returns-in-Err g c =
    proxy-refused header.ghosts.tree g.T.Serialize.tree c.args.tag c.in_ok-row.row c.args.from.now c.read_sequence.new.from c.in_ok-row.ensures
    c.refuse.new.self c.refuse.result c.refuse.ensures.after c.refuse.ensures.fault c.in-Err.ensures.1
