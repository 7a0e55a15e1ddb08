use Rattle.toml.proofs.Views.{table_get}
use Rattle.krb_settings.proofs.table.get.Goals as goal

pub returns : goal.returns
returns c =
    let found = table_get c.get.result c.name.result.now c.args.table.now.entries c.get.ensures.value in
    rw c.name.ensures at found
