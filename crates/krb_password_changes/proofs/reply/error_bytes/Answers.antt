use Rattle.krb_password_changes.proofs.reply.error_bytes.Goals as goal

pub returns : goal.returns
returns c = (c.second-time.result, c.second-time.ensures, rw c.microsecond-microseconds.ensures.value at c.in_ok-bytes.ensures)
