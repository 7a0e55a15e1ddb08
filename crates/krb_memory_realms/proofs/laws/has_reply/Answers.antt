use Rattle.krb_kdc_exchanges.proofs.HasReply.{has_reply}
use Rattle.pkinit_validation.specs.PkinitRows.{pkinit_rows}
use Rattle.krb_memory_realms.proofs.laws.has_reply.Goals as goal

pub returns : goal.returns
returns c = λ call trust keys request. has_reply call (pkinit_rows trust keys) request
