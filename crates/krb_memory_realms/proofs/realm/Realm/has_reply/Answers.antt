use Rattle.krb_memory_realms.specs.Realm.{call_to}
use Rattle.krb_memory_realms.proofs.realm.Realm.has_reply.Goals as goal

pub returns : goal.returns
returns g c =
    c.has_reply.ensures (call_to c.args.self.now c.args.moment c.args.words.now) c.args.self.now.trust (g.K.KeyFunctions.functions c.args.keys.now) c.args.message.now
    (record { in_time = c.micros-micros.ensures.in_range; enough = c.requires; bytes = c.is_slice-2.ensures.bytes; keyed = c.are_keyed.ensures })
    c.is_slice.ensures.bytes c.is_slice.ensures.few
