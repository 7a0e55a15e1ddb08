use Rattle.std.proofs.Common.{refl, sym, inl, inr, ◌∙◌}
use Rattle.krb_tickets.proofs.FoundKeys.{key_found, no_key_found}
use Rattle.krb_password_changes.proofs.private.open_under.Goals as goal

pub returns-in_default : goal.returns-in_default
returns-in_default c =
    let none = no_key_found c.args.key.now (sym c.key_of.ensures ∙ c.in_default.is) in
    rw none refl

pub returns-in_default-2 : goal.returns-in_default-2
returns-in_default-2 c =
    let own = key_found c.args.key.now c.in-Some.own (sym c.key_of.ensures ∙ c.in-Some.is) in
    let none = rw (c.in_default-2.is, sym own.1) at c.in_ok-part.ensures in
    rw own.0 (inr (none, refl))

pub returns : goal.returns
returns c =
    let own = key_found c.args.key.now c.in-Some.own (sym c.key_of.ensures ∙ c.in-Some.is) in
    let found = rw (c.in-Some-2.is, sym own.1) at c.in_ok-part.ensures in
    rw own.0 (inl (c.in-Some-2.part, found, refl))
