use Rattle.std.proofs.Common.{refl, arith}
use Rattle.gss_contexts.proofs.IntegrityLaws.{record-written}
use Rattle.gss_contexts.proofs.message_tokens.integrity.LsapTokenInfoIntegrity.bytes.Goals as goal

pub returns : goal.returns
returns c =
    record-written c.args.self.now _ _ _ _ _ _ refl (omega arith) c.u32_le_bytes.ensures.bytes c.u32_le_bytes-2.ensures.bytes
    c.put_at.ensures c.put_at-2.ensures c.put_at-3.ensures
