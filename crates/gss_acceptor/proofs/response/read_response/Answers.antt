use Rattle.gss_acceptor.proofs.Offered.{of_no_response, of_response}
use Rattle.gss_acceptor.proofs.response.read_response.Goals as goal

pub returns-in-Some : goal.returns-in-Some
returns-in-Some c =
    let is = rw c.in-Some.is at c.in_ok-read.ensures in
    rw c.tokens_in.ensures (of_response c.args.token.now c.in-Some.message.0 is)

pub returns-in-None : goal.returns-in-None
returns-in-None c =
    let none = rw c.in-None.is at c.in_ok-read.ensures in
    of_no_response c.args.token.now (λ message is. none (record { 0 = message }) is)
