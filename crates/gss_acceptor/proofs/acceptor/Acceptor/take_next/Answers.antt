use Rattle.gss_acceptor.proofs.Handling.{by_last, by_stage}
use Rattle.gss_acceptor.specs.declared.accepted.Stage.TheVariants.{Token, Mic}
use Rattle.gss_acceptor.proofs.acceptor.Acceptor.take_next.Goals as goal

pub returns-in-Token : goal.returns-in-Token
returns-in-Token g c =
    let taken = rw c.in-Token.is at c.take_response.ensures in
    by_stage c.args.self.now c.take_response.new.self c.args.moment c.args.words.now c.args.negotiation.stage (Token c.in-Token.terms) c.args.tokens c.take_response.result c.in-Token.is taken

pub returns-in-Mic : goal.returns-in-Mic
returns-in-Mic g c =
    let taken = rw c.in-Mic.is at c.take_mic.ensures in
    by_stage c.args.self.now c.args.self.now c.args.moment c.args.words.now c.args.negotiation.stage (Mic c.in-Mic.unverified) c.args.tokens c.take_mic.result c.in-Mic.is
    (by_last c.args.self.now c.args.moment c.args.words.now c.in-Mic.unverified c.args.tokens c.take_mic.result taken)
