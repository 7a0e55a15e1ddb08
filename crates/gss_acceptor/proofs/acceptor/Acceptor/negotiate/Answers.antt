use Rattle.gss_acceptor.proofs.Handling.{by_none, by_offer}
use Rattle.gss_acceptor.proofs.acceptor.Acceptor.negotiate.Goals as goal

pub returns-in-Ok : goal.returns-in-Ok
returns-in-Ok g c =
    by_offer c.args.self.now c.take_offer.new.self c.args.moment c.args.token.now c.args.words.now c.in-Ok.offer c.take_offer.result c.in-Ok.ensures c.take_offer.ensures

pub returns-in-Err : goal.returns-in-Err
returns-in-Err g c = by_none c.args.self.now c.args.moment c.args.token.now c.args.words.now c.in-Err.refusal c.in-Err.ensures
