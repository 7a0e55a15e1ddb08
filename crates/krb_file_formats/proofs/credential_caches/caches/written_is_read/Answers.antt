use Rattle.krb_file_formats.proofs.CacheLaws.{written-again}
use Rattle.krb_file_formats.proofs.credential_caches.caches.written_is_read.Goals as goal

pub returns : goal.returns
returns c = written-again
