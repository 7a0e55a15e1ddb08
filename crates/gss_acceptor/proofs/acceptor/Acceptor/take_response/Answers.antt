use Rattle.gss_acceptor.proofs.Handling.{by_due_token, by_no_token}
use Rattle.gss_acceptor.proofs.acceptor.Acceptor.take_response.Goals as goal

pub returns-in-Some : goal.returns-in-Some
returns-in-Some g c =
    let taken = rw c.as_bytes.ensures at c.take_token-accepted.ensures in
    by_due_token c.args.self.now c.take_token-accepted.new.self c.args.moment c.in-Some.token c.args.words.now c.args.terms c.args.tokens c.take_token-accepted.result c.in-Some.is taken

pub returns-in-None : goal.returns-in-None
returns-in-None g c = by_no_token c.args.self.now c.args.moment c.args.words.now c.args.terms c.args.tokens c.in-None.is
