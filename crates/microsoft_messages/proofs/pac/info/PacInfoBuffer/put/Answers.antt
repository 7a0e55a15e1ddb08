use Rattle.std.proofs.Common.{ap, ◌∙◌}
use Rattle.byte_streams.specs.Numbers.{le32}
use Rattle.microsoft_messages.proofs.WritingLaws.{three-put}
use Rattle.microsoft_messages.proofs.pac.info.PacInfoBuffer.put.Goals as goal

pub returns : goal.returns
returns c =
    three-put c.args.place _ _ _ _ _ _ _ _ _ _ (c.u32_le_bytes.ensures.bytes ∙ ap le32 c.from.ensures) c.u32_le_bytes-2.ensures.bytes c.u64_le_bytes.ensures.bytes
    c.put_at.ensures c.put_at-2.ensures c.put_at-3.ensures
