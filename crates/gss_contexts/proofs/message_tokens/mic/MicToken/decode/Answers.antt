use Rattle.std.proofs.Common.{◌++◌}
use Rattle.gss_contexts.proofs.MessageTokenLaws.{mic-read}
use Rattle.gss_contexts.proofs.GivenBack.{mic-excused, mic-given}
use Rattle.gss_contexts.proofs.message_tokens.mic.MicToken.decode.Goals as goal

pub returns-in_err-token-clause-only : goal.returns-in_err-token-clause-only
returns-in_err-token-clause-only g c =
    mic-excused (g.R.Source.left c.args.reader.now) _ c.from_residual.result c.in_err-token.field-0.0 _ _ _
    c.from_residual.ensures.1 c.in_err-token.ensures.refused

pub returns-clause-found : goal.returns-clause-found
returns-clause-found g c = (
  c.in_ok-token.token.header ++ c.in_ok-token.token.checksum.items,
  mic-read _ _ c.u64_be.result c.in_ok-token.ensures.size c.in_ok-token.ensures.judged c.u64_be.ensures.stands,
  c.in_ok-token.ensures.bytes,
)

pub returns-clause-only : goal.returns-clause-only
returns-clause-only g c =
    mic-given (g.R.Source.left c.args.reader.now) (g.R.Source.left c.read_token.new.reader) c.in_ok-token.token.header c.in_ok-token.token.checksum.items
    c.u64_be.result c.in_ok-token.ensures.size c.u64_be.ensures.read c.in_ok-token.ensures.bytes c.in_ok-token.ensures.end
