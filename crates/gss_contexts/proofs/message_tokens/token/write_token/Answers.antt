use Rattle.std.proofs.KnownBytes.{Appends-trans}
use Rattle.std.proofs.lemmas.Result.{MatchResult-weaker}
use Rattle.byte_streams.proofs.Exits.{at-exit}
use Rattle.gss_contexts.proofs.WritingLaws.{first-front, second-front}
use Rattle.gss_contexts.proofs.message_tokens.token.write_token.Goals as goal

pub returns-in_err-write_part-clause-written : goal.returns-in_err-write_part-clause-written
returns-in_err-write_part-clause-written g c =
    at-exit _ _ _ _ c.from_residual.ensures.1 (first-front _ _ _ _ c.in_err-write_part.ensures.written)

pub returns-clause-written : goal.returns-clause-written
returns-clause-written g c =
    MatchResult-weaker c.write_part-2.result c.write_part-2.ensures.written
    (λ _ grown. Appends-trans _ _ _ _ _ c.in_ok-write_part.ensures.written grown)
    (λ _ front. second-front _ _ _ _ _ c.in_ok-write_part.ensures.written front)
