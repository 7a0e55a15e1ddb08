use Rattle.std.proofs.Common.{inl, refl}
use Rattle.krb_password_changes.proofs.private.find_private.Goals as goal

pub returns : goal.returns
returns c =
    let found = rw c.in-Some.is at c.in_ok-message.ensures in inl (c.in-Some.message, found, refl)
