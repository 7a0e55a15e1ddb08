use Rattle.gss_acceptor.proofs.Handling.{by_no_response, by_response}
use Rattle.gss_acceptor.proofs.acceptor.Acceptor.resume.Goals as goal

pub returns-in-Ok : goal.returns-in-Ok
returns-in-Ok g c =
    by_response c.args.self.now c.take_next.new.self c.args.moment c.args.token.now c.args.words.now c.args.negotiation c.in-Ok.tokens c.take_next.result c.in-Ok.ensures c.take_next.ensures

pub returns-in-Err : goal.returns-in-Err
returns-in-Err g c = by_no_response c.args.self.now c.args.moment c.args.token.now c.args.words.now c.args.negotiation c.in-Err.refusal c.in-Err.ensures
