use Rattle.krb_kdc.specs.Calls.{call_with}
use Rattle.krb_kdc.proofs.laws.has_reply.Goals as goal

pub returns : goal.returns
returns g c = λ all keyed.
    c.has_reply.ensures (call_with c.args.call.now all) c.args.message.now
    (record { in_time = c.micros-micros.ensures.in_range; enough = c.requires; bytes = c.is_slice-2.ensures.bytes; keyed = keyed })
    c.is_slice.ensures.bytes c.is_slice.ensures.few
