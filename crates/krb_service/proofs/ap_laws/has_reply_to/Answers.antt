use Rattle.krb_service.proofs.Replied.{has_reply_to}
use Rattle.krb_service.proofs.ap_laws.has_reply_to.Goals as goal

pub returns : goal.returns
returns c = λ entry skew moment choice bytes words x presents long words_bytes.
    has_reply_to entry skew moment choice words x presents.authenticator.sealed.key_bytes long words_bytes
