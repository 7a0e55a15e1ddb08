use Rattle.krb_file_formats.proofs.PieceLaws.{one-keytab}
use Rattle.krb_file_formats.proofs.keytab.one_reading.Goals as goal

pub returns : goal.returns
returns c = one-keytab
