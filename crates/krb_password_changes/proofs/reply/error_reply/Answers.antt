use Rattle.std.proofs.Common.{◌∙◌}
use Rattle.krb_password_changes.proofs.reply.error_reply.Goals as goal

pub returns : goal.returns
returns c =
    let made = c.in_ok-krb_error.ensures in
    record { time = made.0; is_now = made.1; frame = rw (c.deref.ensures.value ∙ made.2) at c.in_ok-message.ensures }
