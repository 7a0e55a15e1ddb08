use Rattle.std.proofs.Common.{refl}
use Rattle.gss_contexts.specs.MessageTokens.{wrap_of}
use Rattle.gss_contexts.proofs.MessageTokenLaws.{wrap_header-written}
use Rattle.gss_contexts.proofs.message_tokens.wrap.WrapToken.header.Goals as goal

pub returns-clause-laid : goal.returns-clause-laid
returns-clause-laid c =
    wrap_header-written (wrap_of c.args.self.now) _ _ _ _ _ _ _ _ _ _ _ refl c.id.ensures
    c.u16_be_bytes.ensures.bytes c.u16_be_bytes-2.ensures.bytes c.u64_be_bytes.ensures.bytes
    c.put_at.ensures c.put_at-2.ensures c.put_at-3.ensures c.put_at-4.ensures c.put_at-5.ensures c.put_at-6.ensures
