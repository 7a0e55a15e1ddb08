use Rattle.std.proofs.Common.{refl, subst}
use Rattle.cdb.specs.Reading.{IsFilled}
use Rattle.cdb.specs.Headers.{file_of, front_of}
use Rattle.cdb.proofs.Headers.{filled_behind, known_behind}
use Rattle.cdb.proofs.headed.HeadedReadAt.read_at.Goals as goal

pub returns-in-Ok : goal.returns-in-Ok
returns-in-Ok g c = λ bytes known.
    let filled = subst (λ front. IsFilled c.args.position front c.read_at.new.buffer) c.front.ensures (c.in-Ok.ensures c.front.result.now refl) in
    filled_behind (front_of c.args.self.now) (g.F.ReadAt.content (file_of c.args.self.now)) bytes c.args.position c.read_at.new.buffer known filled

pub returns-in-Err : goal.returns-in-Err
returns-in-Err g c = λ bytes known.
    c.read_at-in-Err.ensures bytes (known_behind (front_of c.args.self.now) (g.F.ReadAt.content (file_of c.args.self.now)) bytes known)
