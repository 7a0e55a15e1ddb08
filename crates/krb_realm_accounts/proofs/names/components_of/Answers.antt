use Rattle.std.proofs.Common.{sym, ◌∙◌}
use Rattle.krb_realm_accounts.proofs.Parts.{is_realm_name-part}
use Rattle.krb_realm_accounts.proofs.names.components_of.Goals as goal

pub copy_of-requires : goal.copy_of-requires
copy_of-requires c =
    rw c.as_slice.ensures.value (is_realm_name-part _ _ _ (sym c.are_components.ensures ∙ c.if-not-are_components.false) c.loop-component-test.true c.component-item.is)
