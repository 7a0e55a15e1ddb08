use Rattle.std.proofs.Common.{subst, sym}
use Rattle.std.proofs.lemmas.Result.{err_from_is_err_and}
use Rattle.cdb.specs.Reading.{Gives}
use Rattle.cdb.proofs.Probing.{slot_empty, slot_fails, slot_other, slot_record}
use Rattle.cdb.proofs.tables.in_slot.Goals as goal

pub returns-in_err-slot_hash : goal.returns-in_err-slot_hash
returns-in_err-slot_hash g c = λ bytes known.
    let p = err_from_is_err_and c.from_residual.result c.from_residual.ensures.1 in
    let slot = c.in_err-slot_hash.ensures bytes known in
    rw (p.1, p.2) (slot_fails (g.F.ReadAt.fails c.args.file.now) c.in_err-slot_hash.field-0.0 c.args.key.now c.args.hash c.args.position bytes slot)

pub returns-then-at-eq0 : goal.returns-then-at-eq0
returns-then-at-eq0 g c = λ bytes known.
    let slot = c.in_ok-slot_hash.ensures bytes known in
    slot_empty c.args.key.now c.args.hash c.args.position c.in_ok-slot_hash.slot_hash c.in_ok-slot_hash.at bytes slot c.if-at-eq0.true

pub returns-then-slot_hash-hash : goal.returns-then-slot_hash-hash
returns-then-slot_hash-hash g c = λ bytes known.
    let slot = c.in_ok-slot_hash.ensures bytes known in
    slot_other c.args.key.now c.args.hash c.args.position c.in_ok-slot_hash.slot_hash c.in_ok-slot_hash.at bytes slot c.if-at-eq0.false c.if-slot_hash-hash.true

pub returns : goal.returns
returns g c = λ bytes known.
    let slot = c.in_ok-slot_hash.ensures bytes known in
    let same = slot_record c.args.key.now c.args.hash c.args.position c.in_ok-slot_hash.slot_hash c.in_ok-slot_hash.at bytes slot c.if-at-eq0.false c.if-slot_hash-hash.false in
    let told = c.in_record.ensures bytes known in
    subst (Gives (g.F.ReadAt.fails c.args.file.now) c.in_record.result) (sym same) told
