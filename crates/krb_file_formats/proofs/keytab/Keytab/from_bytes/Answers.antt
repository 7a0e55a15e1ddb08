use Rattle.std.proofs.Common.{arith}
use Rattle.byte_streams.proofs.Exits.{at-exit}
use Rattle.krb_file_formats.proofs.KeytabLaws.{keytab-found, same-entries, refused-keytab}
use Rattle.krb_file_formats.proofs.keytab.Keytab.from_bytes.Goals as goal

pub returns-in_err-records-clause-only : goal.returns-in_err-records-clause-only
returns-in_err-records-clause-only c =
    λ es is. at-exit _ _ _ _ c.from_residual.ensures.1 (refused-keytab es c.args.bytes.now _ is c.in_err-records.ensures)

pub returns-clause-laid : goal.returns-clause-laid
returns-clause-laid c = keytab-found _ c.args.bytes.now (λ i. omega (arith, c.type_inv.bytes i)) c.in_ok-records.ensures

pub returns-clause-only : goal.returns-clause-only
returns-clause-only c = λ es is. same-entries _ es c.args.bytes.now is c.in_ok-records.ensures
