use Rattle.std.proofs.Common.{Option, sym, subst}
use Rattle.picky_asn1.specs.Bytes.{Bytes}
use Rattle.gss_initiator.specs.Replies.{IsRead}
use Rattle.gss_initiator.specs.Responses.{settled}
use Rattle.gss_initiator.proofs.initiated.Pending.settled.Goals as goal

pub returns-in-Some : goal.returns-in-Some
returns-in-Some c =
    let made = rw c.as_bytes.ensures at c.settled_with.ensures in
    subst (λ (token : Option Bytes). IsRead (settled c.args.self.now token).gives c.settled_with.result) (sym c.in-Some.is) made

pub returns-in-None : goal.returns-in-None
returns-in-None c =
    subst (λ (token : Option Bytes). IsRead (settled c.args.self.now token).gives c.settled_without.result) (sym c.in-None.is) c.settled_without.ensures
