use Rattle.std.proofs.Common.{◌≡◌, true, false, sym, ◌∙◌}
use Rattle.toml.specs.View.{table_view}
use Rattle.krb_settings.specs.Fields.{has_only}
use Rattle.krb_settings.proofs.Tables.{has_only-view}
use Rattle.krb_settings.proofs.table.check_keys.Goals as goal

pub returns-then-has_only : goal.returns-then-has_only
returns-then-has_only c =
    let known : has_only c.args.fields.now (table_view c.args.table.now) ≡ true =
    has_only-view c.args.fields.now c.args.table.now.entries ∙ sym c.has_only.ensures ∙ c.if-has_only.true in
    rw known

pub returns-else-has_only : goal.returns-else-has_only
returns-else-has_only c =
    let unknown : has_only c.args.fields.now (table_view c.args.table.now) ≡ false =
    has_only-view c.args.fields.now c.args.table.now.entries ∙ sym c.has_only.ensures ∙ c.if-has_only.false in
    rw unknown
