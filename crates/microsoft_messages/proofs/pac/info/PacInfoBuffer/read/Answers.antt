use Rattle.std.proofs.Common.{sym, arith}
use Rattle.microsoft_messages.proofs.FoundLaws.{fields-laid}
use Rattle.microsoft_messages.proofs.pac.info.PacInfoBuffer.read.Goals as goal

pub returns-clause-laid : goal.returns-clause-laid
returns-clause-laid c =
    fields-laid c.args.stop _ c.args.place c.args.bytes.now _ (λ i. omega (arith, c.type_inv.bytes i)) (sym c.in_ok-kind.ensures) c.read_fields.ensures
