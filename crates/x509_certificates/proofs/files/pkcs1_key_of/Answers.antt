use Rattle.x509_certificates.proofs.Keys.{no_pkcs1, read}
use Rattle.x509_certificates.proofs.files.pkcs1_key_of.Goals as goal

pub returns-in-Ok : goal.returns-in-Ok
returns-in-Ok c = read _ _ c.args.found.now.der.items c.in-Ok.key c.as_slice.ensures.value c.in-Ok.ensures.value

pub returns-in-Err : goal.returns-in-Err
returns-in-Err c = no_pkcs1 _ c.args.found.now _ c.in-Err.fault c.unread.result c.as_slice.ensures.value c.in-Err.ensures.value c.unread.ensures
