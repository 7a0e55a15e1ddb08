use Rattle.std.proofs.Common.{refl}
use Rattle.gss_contexts.specs.MessageTokens.{mic_of}
use Rattle.gss_contexts.proofs.MessageTokenLaws.{mic_header-written}
use Rattle.gss_contexts.proofs.message_tokens.mic.MicToken.header.Goals as goal

pub returns-clause-laid : goal.returns-clause-laid
returns-clause-laid c =
    mic_header-written (mic_of c.args.self.now) _ _ _ _ _ _ _ refl c.id.ensures c.u64_be_bytes.ensures.bytes
    c.put_at.ensures c.put_at-2.ensures c.put_at-3.ensures c.put_at-4.ensures
