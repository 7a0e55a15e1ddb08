use Rattle.std.proofs.Common.{◌+◌, ap, arith, inl}
use Rattle.std.proofs.lemmas.Result.{err_from_is_err_and}
use Rattle.cdb.specs.declared.format.TheConstants.{PAIR_SIZE}
use Rattle.cdb.specs.Find.{pair_at}
use Rattle.cdb.proofs.Judging.{pair_never_long, record_judged, refused}
use Rattle.cdb.proofs.Positions.{front_sized}
use Rattle.cdb.proofs.check.is_sound_record.Goals as goal

pub returns-in_err-key_size : goal.returns-in_err-key_size
returns-in_err-key_size g c = λ bytes known.
    let p = err_from_is_err_and c.from_residual.result c.from_residual.ensures.1 in
    let sizes = rw c.from.ensures at c.in_err-key_size.ensures bytes known in
    rw (p.1, p.2) (refused (g.F.ReadAt.fails c.args.file.now) c.in_err-key_size.field-0.0 (pair_at c.args.at bytes) _ _ _ ⊥ sizes (λ cut. inl cut) (pair_never_long c.args.at bytes))

pub returns-then-size-room : goal.returns-then-size-room
returns-then-size-room g c = λ bytes known.
    let sizes = rw c.from.ensures at c.in_ok-key_size.ensures bytes known in
    ((c.in_ok-key_size.key_size, c.in_ok-key_size._size), sizes, inl (omega arith))

pub returns : goal.returns
returns g c = λ bytes known.
    let sizes = rw c.from.ensures at c.in_ok-key_size.ensures bytes known in
    let sized = front_sized c.in_ok-key_size.key_size c.is_sound_key.new.room c.args.room.now c.is_sound_key.auto.room c.if-size-room.false in
    record_judged (g.F.ReadAt.fails c.args.file.now) (g.K.Keys.has c.args.keys.now) (g.K.Keys.lacks c.args.keys.now) c.is_sound_key.result bytes c.args.at
    c.in_ok-key_size.key_size c.in_ok-key_size._size _ _ sizes (ap (λ at. at + PAIR_SIZE) c.from-2.ensures) sized (c.is_sound_key.ensures bytes known)
