use Rattle.krb_ap_requests.proofs.Accepted.{received_as_chosen}
use Rattle.krb_ap_requests.proofs.Chosen.{received_is_chosen}
use Rattle.krb_service.proofs.ap_laws.received_as_chosen.Goals as goal

pub returns-clause-received : goal.returns-clause-received
returns-clause-received c = received_as_chosen

pub returns-clause-chosen : goal.returns-clause-chosen
returns-clause-chosen c = received_is_chosen
