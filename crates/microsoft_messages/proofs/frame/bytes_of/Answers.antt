use Rattle.std.proofs.Common.{arith}
use Rattle.microsoft_messages.proofs.FrameLaws.{frame-made}
use Rattle.microsoft_messages.proofs.frame.bytes_of.Goals as goal

pub returns-in-Ok : goal.returns-in-Ok
returns-in-Ok c =
    frame-made c.args.ap_message.now c.args.krb_priv.now _ _ _ _ c.new-bytes.ensures.items c.in_ok-count.ensures.0 (omega arith) c.in-Ok.ensures
