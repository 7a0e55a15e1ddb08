use Rattle.krb_file_formats.proofs.CacheLaws.{one-cache}
use Rattle.krb_file_formats.proofs.credential_caches.caches.one_reading.Goals as goal

pub returns : goal.returns
returns c = one-cache
