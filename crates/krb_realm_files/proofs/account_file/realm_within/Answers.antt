use Rattle.std.proofs.Common.{◌∙◌}
use Rattle.cdb.specs.Find.{looked_up}
use Rattle.krb_realm_files.specs.declared.format.TheConstants.{RECORD_ROOM}
use Rattle.krb_realm_files.proofs.Said.{realm_at_front, realm_refused, of_memory, said_as}
use Rattle.krb_realm_files.proofs.account_file.realm_within.Goals as goal

pub returns-in-Ok : goal.returns-in-Ok
returns-in-Ok g c = λ bytes known.
    let sized = c.look_up.auto.buffer ∙ c.requires.room in
    let found = rw sized at c.in-Ok.ensures.content bytes known in
    let fails = g.F.ReadAt.fails c.args.file.now in
    said_as fails _ _ c.realm_at.result (realm_at_front fails c.in-Ok.found c.look_up.new.buffer (looked_up RECORD_ROOM bytes c.args.key.now) found)
    (of_memory fails _ c.realm_at.result c.realm_at.ensures)

pub returns-in-Err : goal.returns-in-Err
returns-in-Err g c = λ bytes known.
    let sized = c.look_up.auto.buffer ∙ c.requires.room in
    let refused = rw sized at c.in-Err.ensures.content bytes known in
    realm_refused (g.F.ReadAt.fails c.args.file.now) c.in-Err.fault c.fault_of.result (looked_up RECORD_ROOM bytes c.args.key.now) c.fault_of.ensures refused
