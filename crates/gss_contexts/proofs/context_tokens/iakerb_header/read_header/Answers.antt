use Rattle.asn1_codec.proofs.Chain.{at-exit, refused-as}
use Rattle.gss_contexts.proofs.HeaderReading.{header-read, header-refused}
use Rattle.gss_contexts.proofs.context_tokens.iakerb_header.read_header.Goals as goal

pub returns-in_err-content : goal.returns-in_err-content
returns-in_err-content g c =
    at-exit _ _ _ _ c.from_residual.ensures.1
    (refused-as _ _ _ _ _ c.in_err-content.ensures (λ bytes (f, (content, is, led)). (content, is)))

pub returns-in-Ok : goal.returns-in-Ok
returns-in-Ok g c =
    header-read g.A.Serialize.tree g.B.Serialize.firsts g.B.Serialize.tree g.C.Serialize.firsts g.C.Serialize.tree c.in-Ok.fields c.in_ok-content.content.items
    c.as_slice.result.now _ _ c.as_slice.ensures.value c.in_ok-content.ensures c.in-Ok.ensures

pub returns : goal.returns
returns g c =
    header-refused g.A.Serialize.tree g.B.Serialize.firsts g.B.Serialize.tree g.C.Serialize.firsts g.C.Serialize.tree c.in_ok-content.content.items
    c.as_slice.result.now _ _ _ _ _ c.as_slice.ensures.value c.in_ok-content.ensures c.refuse.ensures.after c.refuse.ensures.fault c.in-Err.ensures.0 c.in-Err.ensures.1
