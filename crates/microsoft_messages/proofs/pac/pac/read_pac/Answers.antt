use Rattle.std.proofs.Common.{arith}
use Rattle.microsoft_messages.proofs.FoundLaws.{pac-found}
use Rattle.microsoft_messages.proofs.pac.pac.read_pac.Goals as goal

pub returns-clause-laid : goal.returns-clause-laid
returns-clause-laid c =
    pac-found c.args.stop _ c.args.bytes.now (λ i. omega (arith, c.type_inv.bytes i)) c.in_ok-buffers.ensures.exact
