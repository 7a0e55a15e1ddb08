use Rattle.gss_contexts.proofs.IntegrityLaws.{record-read}
use Rattle.gss_contexts.proofs.message_tokens.integrity.LsapTokenInfoIntegrity.of_bytes.Goals as goal

pub returns-clause-laid : goal.returns-clause-laid
returns-clause-laid c =
    record-read c.args.bytes.now c.array_at.result c.u32_le.result c.u32_le-2.result c.told-bytes
    c.u32_le.ensures.stands c.u32_le-2.ensures.stands c.array_at.ensures
