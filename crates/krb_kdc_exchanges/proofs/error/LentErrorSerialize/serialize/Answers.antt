use Rattle.std.proofs.Common.{sym}
use Rattle.krb_kdc_exchanges.proofs.error.LentErrorSerialize.serialize.Goals as goal

pub returns : goal.returns
returns g c = rw (sym c.self.view_is) c.list.ensures
