use Rattle.std.proofs.Common.{◌≤◌, length, arith}
use Rattle.toml.specs.View.{table_view}
use Rattle.krb_settings.proofs.Files.{read_document}
use Rattle.krb_settings.proofs.file.read_settings_file.Goals as goal

pub returns-in-Ok : goal.returns-in-Ok
returns-in-Ok c =
    let short : length c.args.text.now ≤ 1048576 = omega arith in
    read_document _ (table_view c.in-Ok.table) c.realm_in_table.result
    (record { short = short; utf8 = c.in-Ok.ensures.ok.0; parsed = c.in-Ok.ensures.ok.1 }) c.realm_in_table.ensures
