use Rattle.gss_acceptor.proofs.Concluded.{by_mics, by_no_mics}
use Rattle.gss_acceptor.proofs.conclude.exchange_mics.Goals as goal

pub returns-in-Ok : goal.returns-in-Ok
returns-in-Ok c =
    by_mics _ c.args.established c.args.supported c.mic_for_mic.new.context c.args.list.now c.args.mic.now c.in-Ok.own.items c.complete.result c.established.view_is c.in-Ok.ensures.made c.complete.ensures

pub returns-in-Err : goal.returns-in-Err
returns-in-Err c =
    by_no_mics _ c.args.established c.args.supported c.args.list.now c.args.mic.now c.in-Err.cause c.established.view_is c.in-Err.ensures.refused
