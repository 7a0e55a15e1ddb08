use Rattle.gss_acceptor.proofs.Held.{held_in}
use Rattle.gss_acceptor.proofs.token.ap_req_in.Goals as goal

pub returns : goal.returns
returns c = held_in (λ request. request.now) c.args.token.now c.in_ok-content.content.now c.request_in.result c.in_ok-content.ensures c.request_in.ensures
