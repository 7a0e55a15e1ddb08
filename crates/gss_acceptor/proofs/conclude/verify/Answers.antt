use Rattle.gss_acceptor.proofs.Concluded.{by_verified, by_wrong}
use Rattle.gss_acceptor.proofs.conclude.verify.Goals as goal

pub returns-in-Ok : goal.returns-in-Ok
returns-in-Ok c =
    let takes = rw c.as_bytes.ensures at c.in-Ok.ensures.taken in
    by_verified _ c.args.unverified c.args.mic.now c.verify_mic-verified.new.self c.established.view_is takes

pub returns-in-Err : goal.returns-in-Err
returns-in-Err c =
    let why = rw c.as_bytes.ensures at c.in-Err.ensures.refused.1 in
    by_wrong _ c.args.unverified c.args.mic.now c.in-Err.cause c.established.view_is why
