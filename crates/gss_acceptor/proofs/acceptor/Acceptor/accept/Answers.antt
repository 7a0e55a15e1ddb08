use Rattle.gss_acceptor.proofs.Handling.{by_negotiation, by_token}
use Rattle.gss_acceptor.proofs.acceptor.Acceptor.accept.Goals as goal

pub returns-in-Some : goal.returns-in-Some
returns-in-Some g c =
    by_token c.args.self.now c.admit.new.self c.args.moment c.args.token.now c.in-Some.request.now c.args.words.now c.admit.result c.in-Some.ensures c.admit.ensures

pub returns-in-None : goal.returns-in-None
returns-in-None g c =
    by_negotiation c.args.self.now c.negotiate.new.self c.args.moment c.args.token.now c.args.words.now c.negotiate.result c.in-None.ensures c.negotiate.ensures
