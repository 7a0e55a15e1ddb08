use Rattle.std.proofs.Common.{ap}
use Rattle.krb_kdc_exchanges.specs.TgsTable.{suite_of_first}
use Rattle.krb_kdc_exchanges.proofs.GrantedSuites.{same_number}
use Rattle.krb_kdc_exchanges.proofs.tgs_exchange.laws.as_before.Goals as goal

pub returns : goal.returns
returns c = λ client service numbers. ap suite_of_first (same_number numbers)
