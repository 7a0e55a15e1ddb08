use Rattle.krb_file_formats.proofs.KeytabLaws.{written-again}
use Rattle.krb_file_formats.proofs.keytab.written_is_read.Goals as goal

pub returns : goal.returns
returns c = written-again
