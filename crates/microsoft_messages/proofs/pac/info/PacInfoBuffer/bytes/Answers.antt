use Rattle.std.proofs.Common.{sym, subst, refl}
use Rattle.microsoft_messages.specs.Buffers.{IsInfo}
use Rattle.microsoft_messages.proofs.InfoLaws.{info-laid}
use Rattle.microsoft_messages.proofs.pac.info.PacInfoBuffer.bytes.Goals as goal

pub returns : goal.returns
returns c = subst (IsInfo c.args.self.now) (sym c.put.ensures) (info-laid c.args.self.now _ refl)
