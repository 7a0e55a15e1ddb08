use Rattle.std.proofs.Common.{arith}
use Rattle.krb_password_changes.specs.Versions.{version_number}
use Rattle.krb_password_changes.proofs.Cuts.{frame-made}
use Rattle.krb_password_changes.proofs.messages.frame.frame_bytes.Goals as goal

pub returns : goal.returns
returns c =
    let made =
    frame-made c.in-Some.len _ (version_number c.args.version) c.args.ap_message.now c.args.krb_priv.now c.in_ok-bytes.bytes.items
    c.in-Some.ensures.0 (omega arith) c.in_ok-bytes.ensures in
    let size = made.1 in
    let is_len = c.in-Some.ensures.0 in
    let small = c.in-Some.ensures.1 in
    record { octets = made.0; fits = omega (arith, size, is_len, small) }
