use Rattle.std.proofs.Common.{◌≡◌, Some, sym}
use Rattle.krb_realm_accounts.specs.Accounts.{look_in}
use Rattle.krb_messages.specs.Padata.{first_of}
use Rattle.krb_kdc.proofs.Opened.{ticket_found}
use Rattle.krb_kdc.proofs.ticket.part_by.Goals as goal

pub returns : goal.returns
returns c =
    let has : look_in c.args.few.now c.args.granting.now ≡ Some c.in-Some.account.now = sym c.in-Some.ensures in
    let first : first_of 1 c.args.padata.now ≡ Some c.in-Some-first_of.value.now = sym c.in-Some-first_of.ensures in
    let read = rw (c.in-Some-2.is, c.as_bytes.ensures) at c.in_ok-ap_req.ensures in
    ticket_found c.args.few.now c.args.granting.now c.args.padata.now c.in-Some.account.now c.in-Some-first_of.value.now c.in-Some-2.ap_req has first read c.presented_part-part.result c.presented_part-part.ensures
