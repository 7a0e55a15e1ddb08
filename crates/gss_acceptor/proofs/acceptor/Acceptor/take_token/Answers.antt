use Rattle.gss_acceptor.proofs.Handling.{by_held, by_other}
use Rattle.gss_acceptor.proofs.acceptor.Acceptor.take_token.Goals as goal

pub returns-in-Some : goal.returns-in-Some
returns-in-Some g c =
    by_held c.args.self.now c.admit.new.self c.args.moment c.args.token.now c.in-Some.request.now c.args.words.now c.args.exchange c.admit.result c.in-Some.ensures c.admit.ensures

pub returns-in-None : goal.returns-in-None
returns-in-None g c = by_other c.args.self.now c.args.moment c.args.token.now c.args.words.now c.args.exchange c.in-None.ensures
