use Rattle.krb_kdc_exchanges.proofs.Involved.{of_involved_alone}
use Rattle.pkinit_validation.specs.PkinitRows.{pkinit_rows}
use Rattle.krb_memory_realms.proofs.laws.of_involved_alone.Goals as goal

pub returns : goal.returns
returns c = λ trust keys. of_involved_alone (pkinit_rows trust keys)
