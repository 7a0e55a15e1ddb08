use Rattle.gss_acceptor.proofs.Offered.{of_message, of_none}
use Rattle.gss_acceptor.proofs.negotiation.read_offer.Goals as goal

pub returns-in-Some : goal.returns-in-Some
returns-in-Some c =
    let is = rw c.in-Some.is at c.in_ok-read.ensures in
    of_message c.args.token.now c.in-Some.message.0 c.offer_in.result is c.offer_in.ensures

pub returns-in-None : goal.returns-in-None
returns-in-None c =
    let none = rw c.in-None.is at c.in_ok-read.ensures in
    of_none c.args.token.now (λ message is. none (record { 0 = message }) is)
