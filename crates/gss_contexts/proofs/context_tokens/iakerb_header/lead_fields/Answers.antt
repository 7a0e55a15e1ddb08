use Rattle.asn1_codec.proofs.Chain.{at-exit}
use Rattle.gss_contexts.proofs.HeaderReading.{no-first, no-second, no-third}
use Rattle.gss_contexts.proofs.context_tokens.iakerb_header.lead_fields.Goals as goal

pub returns-in_err-first : goal.returns-in_err-first
returns-in_err-first g c =
    at-exit _ _ _ _ c.from_residual.ensures.1 (
      c.in_err-first.ensures.0,
      no-first g.A.Serialize.tree g.B.Serialize.firsts g.B.Serialize.tree g.C.Serialize.firsts g.C.Serialize.tree c.args.content.now _ c.in_err-first.ensures.1,
    )

pub returns-in_err-second : goal.returns-in_err-second
returns-in_err-second g c =
    at-exit _ _ _ _ c.from_residual-in_err-second.ensures.1 (
      c.in_err-second.ensures.0,
      no-second g.A.Serialize.tree g.B.Serialize.firsts g.B.Serialize.tree g.C.Serialize.firsts g.C.Serialize.tree c.args.content.now c.in_ok-first.first c.in_ok-first.behind.now _
          g.A.Serialize.seen g.A.Serialize.injective c.in_ok-first.ensures c.in_err-second.ensures.1 c.in_err-second.ensures.2,
    )

pub returns-in_err-third : goal.returns-in_err-third
returns-in_err-third g c =
    at-exit _ _ _ _ c.from_residual-in_err-third.ensures.1 (
      c.in_err-third.ensures.0,
      no-third g.A.Serialize.tree g.B.Serialize.firsts g.B.Serialize.tree g.C.Serialize.firsts g.C.Serialize.tree c.args.content.now c.in_ok-first.first c.in_ok-second.second
          c.in_ok-first.behind.now c.in_ok-second.later.now _ g.A.Serialize.seen g.B.Serialize.seen g.A.Serialize.injective g.B.Serialize.injective c.in_ok-first.ensures c.in_ok-second.ensures
          c.in_err-third.ensures.1 c.in_err-third.ensures.2,
    )
