use Rattle.std.proofs.Common.{[], refl}
use Rattle.cdb.proofs.Headers.{content_of_read}
use Rattle.cdb.proofs.headed.Headed.new.Goals as goal

pub returns-in-Ok : goal.returns-in-Ok
returns-in-Ok g c = content_of_read c.read_at.new.buffer (g.F.ReadAt.content c.args.file) (λ bytes known. (c.in-Ok.ensures bytes known).1)

pub returns-in-Err : goal.returns-in-Err
returns-in-Err g c = content_of_read [] (g.F.ReadAt.content c.args.file) (λ bytes known. refl)
