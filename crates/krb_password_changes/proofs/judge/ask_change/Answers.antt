use Rattle.std.proofs.Common.{inl, inr, refl}
use Rattle.krb_password_changes.proofs.judge.ask_change.Goals as goal

pub returns-in_default : goal.returns-in_default
returns-in_default c =
    let none = rw (c.in_default.is, c.as_bytes.ensures) at c.in_ok-change.ensures in inr (none, refl)

pub returns : goal.returns
returns c =
    let found = rw (c.in-Some.is, c.as_bytes.ensures) at c.in_ok-change.ensures in inl (c.in-Some.change, found, refl)
