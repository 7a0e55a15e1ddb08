use Rattle.std.proofs.Common.{Some, inr}
use Rattle.decision_tables.specs.Tables.{as_made, done}
use Rattle.pkinit_validation.specs.AuthPacks.{IsAuthPack, sole_auth_pack}
use Rattle.pkinit_validation.specs.Diagnoses.{pack_fault, unread_fault}
use Rattle.pkinit_validation.proofs.Told.{if_asked, if_made}
use Rattle.pkinit_validation.proofs.diagnosis.octets_fault.Goals as goal

pub returns-in_default : goal.returns-in_default
returns-in_default c =
    let none = rw c.in_default.is at c.in_ok-pack.ensures in
    inr (none, if_made Some (unread_fault c.args.octets.now) _ c.in_ok-fault.ensures)

pub returns : goal.returns
returns c =
    let octets = c.args.octets.now in
    let found : IsAuthPack octets c.in-Some.pack = rw c.in-Some.is at c.in_ok-pack.ensures in
    if_asked (IsAuthPack octets) (sole_auth_pack octets) (as_made Some (unread_fault octets)) (λ pack. done (pack_fault c.args.body.now pack))
    c.in-Some.pack c.pack_fault-fault.result found c.pack_fault-fault.ensures
