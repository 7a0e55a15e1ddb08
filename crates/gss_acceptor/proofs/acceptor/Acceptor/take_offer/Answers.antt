use Rattle.gss_acceptor.proofs.Handling.{by_asking, by_opened}
use Rattle.gss_acceptor.proofs.acceptor.Acceptor.take_offer.Goals as goal

pub returns-in-Some : goal.returns-in-Some
returns-in-Some g c =
    let taken = rw c.as_bytes.ensures at c.take_token-accepted.ensures in
    by_opened c.args.self.now c.take_token-accepted.new.self c.args.moment c.in-Some.token c.args.words.now c.args.offer c.take_token-accepted.result c.in-Some.is taken

pub returns-in-None : goal.returns-in-None
returns-in-None g c = by_asking c.args.self.now c.args.moment c.args.words.now c.args.offer c.ask.result c.in-None.is c.ask.ensures
