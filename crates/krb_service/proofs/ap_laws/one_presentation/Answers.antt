use Rattle.krb_ap_requests.proofs.Presentations.{one_presentation, one_request}
use Rattle.krb_service.proofs.ap_laws.one_presentation.Goals as goal

pub returns-clause-choice : goal.returns-clause-choice
returns-clause-choice c = one_presentation

pub returns-clause-bytes : goal.returns-clause-bytes
returns-clause-bytes c = one_request
