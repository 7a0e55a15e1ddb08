use Rattle.microsoft_messages.proofs.WritingLaws.{two-put}
use Rattle.microsoft_messages.proofs.pac.pac.put_head.Goals as goal

pub returns-clause-parts : goal.returns-clause-parts
returns-clause-parts c = two-put c.args.count 0 _ _ _ _ _ c.u32_le_bytes.ensures.bytes c.u32_le_bytes-2.ensures.bytes c.put_at.ensures c.put_at-2.ensures
