use Rattle.krb_client_exchanges.proofs.Exchanging.{sent_whole}
use Rattle.krb_client_exchanges.proofs.sending.send.Goals as goal

pub returns-in-Ok-ask : goal.returns-in-Ok-ask
returns-in-Ok-ask g c =
    let grew = rw c.deref.ensures.value at c.in-Ok-ask.ensures in
    rw c.in-Ok.is (sent_whole c.in-Ok.octets.items c.in-Ok.asked c.in-Ok-ask.reply.items grew)
