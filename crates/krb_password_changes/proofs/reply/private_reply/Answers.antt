use Rattle.krb_password_changes.proofs.reply.private_reply.Goals as goal

pub returns : goal.returns
returns c =
    record { krb_priv = c.in_ok-krb_priv.krb_priv.items; is_private = c.in_ok-krb_priv.ensures; frame = rw c.deref.ensures.value at c.in_ok-message.ensures }
