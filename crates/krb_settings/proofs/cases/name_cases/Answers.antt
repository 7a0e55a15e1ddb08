use Rattle.krb_settings.proofs.Mapped.{name_cases_of}
use Rattle.krb_settings.proofs.cases.name_cases.Goals as goal

pub returns : goal.returns
returns c =
    name_cases_of c.args.name.now _ _ _ _ c.has_octet.ensures c.has_octet-2.ensures c.has_control_part.ensures c.has_blank_part.ensures
