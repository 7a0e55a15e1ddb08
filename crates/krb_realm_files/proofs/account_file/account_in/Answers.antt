use Rattle.std.proofs.Common.{ap, sym, ◌∙◌}
use Rattle.cdb.specs.Find.{looked_up}
use Rattle.krb_realm_files.specs.declared.format.TheConstants.{RECORD_ROOM}
use Rattle.krb_realm_files.specs.Files.{account_found}
use Rattle.krb_realm_files.proofs.Said.{fitting, said_as, unfit}
use Rattle.krb_realm_files.proofs.account_file.account_in.Goals as goal

pub returns-then-not-pack : goal.returns-then-not-pack
returns-then-not-pack g c = λ bytes known. unfit bytes c.args.name.now (sym c.pack.ensures.fits ∙ c.if-not-pack.true)

pub returns : goal.returns
returns g c = λ bytes known.
    let block = c.as_slice.ensures.value ∙ c.pack.ensures.packed c.if-not-pack.false in
    said_as (g.F.ReadAt.fails c.args.file.now) _ _ c.account_within.result
    (ap (λ b. account_found (looked_up RECORD_ROOM bytes b)) block ∙ fitting bytes c.args.name.now (sym c.pack.ensures.fits ∙ c.if-not-pack.false))
    (c.account_within.ensures bytes known)
