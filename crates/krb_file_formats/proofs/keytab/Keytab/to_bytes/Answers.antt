use Rattle.std.proofs.Common.{sym, subst}
use Rattle.krb_file_formats.specs.Layouts.{IsKeytab}
use Rattle.krb_file_formats.proofs.KeytabLaws.{written-laid}
use Rattle.krb_file_formats.proofs.keytab.Keytab.to_bytes.Goals as goal

pub returns-clause-laid : goal.returns-clause-laid
returns-clause-laid c =
    subst (λ es. IsKeytab es c.in_ok-bytes.bytes.items) c.records.ensures
    (subst (IsKeytab c.records.result.now) (sym c.in_ok-bytes.ensures.0) (written-laid c.records.result.now c.in_ok-bytes.ensures.1))
