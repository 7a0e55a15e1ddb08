use Rattle.gss_acceptor.proofs.Concluded.{by_mic}
use Rattle.gss_acceptor.proofs.conclude.conclude.Goals as goal

pub returns-in-Some : goal.returns-in-Some
returns-in-Some c =
    let answered = rw (c.as_bytes.ensures, c.as_bytes-in-Some.ensures) at c.exchange_mics-concluded.ensures in
    by_mic c.args.exchange c.args.established c.in-Some.mic c.exchange_mics-concluded.result c.in-Some.is answered
