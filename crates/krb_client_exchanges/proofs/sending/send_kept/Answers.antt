use Rattle.krb_client_exchanges.proofs.Exchanging.{sent_kept}
use Rattle.krb_client_exchanges.proofs.sending.send_kept.Goals as goal

pub returns-in-Ok-ask : goal.returns-in-Ok-ask
returns-in-Ok-ask g c =
    let grew = rw c.deref.ensures.value at c.in-Ok-ask.ensures in
    rw c.in-Ok.is (sent_kept c.in-Ok.octets.items c.in-Ok.asked c.in-Ok-ask.reply.items grew)
