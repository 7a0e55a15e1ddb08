use Rattle.std.proofs.Common.{sym, inl, inr, ◌∙◌}
use Rattle.krb_tickets.proofs.FoundKeys.{key_found, no_key_found}
use Rattle.krb_password_changes.proofs.Replied.{error_given, private_given}
use Rattle.krb_password_changes.proofs.reply.reply_to_admitted.Goals as goal

pub returns-in_default : goal.returns-in_default
returns-in_default c =
    error_given c.args.service.now c.args.moment c.args.admission.now c.private_key.result.now _ _ c.args.address.now c.args.words.now c.in_ok-message.message.items
    c.private_key.ensures (c.deref.ensures.value ∙ c.in_ok-octets.ensures) (inl (no_key_found c.private_key.result.now (sym c.key_of.ensures ∙ c.in_default.is))) c.in_ok-message.ensures

pub returns-in_default-ap_rep_in : goal.returns-in_default-ap_rep_in
returns-in_default-ap_rep_in c =
    error_given c.args.service.now c.args.moment c.args.admission.now c.private_key.result.now _ _ c.args.address.now c.args.words.now c.in_ok-message-2.message.items
    c.private_key.ensures (c.deref-in_default-ap_rep_in.ensures.value ∙ c.in_ok-octets.ensures) (inr (rw c.in_default-ap_rep_in.is at (sym c.ap_rep_in.ensures))) c.in_ok-message-2.ensures

pub returns : goal.returns
returns c =
    let own = key_found c.private_key.result.now c.in-Some.key (sym c.key_of.ensures ∙ c.in-Some.is) in
    private_given c.args.service.now c.args.moment c.args.admission.now c.private_key.result.now _ _ c.args.address.now c.args.words.now c.in_ok-message-3.message.items c.in-Some-ap_rep_in.ap_rep.now
    c.in-Some.key.suite c.in-Some.key.bytes
    c.private_key.ensures (c.deref-2.ensures.value ∙ c.in_ok-octets.ensures) (rw c.in-Some-ap_rep_in.is at (sym c.ap_rep_in.ensures)) own.0 own.1 c.in_ok-message-3.ensures
