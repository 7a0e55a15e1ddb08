use Rattle.krb_ap_requests.proofs.HasPresentation.{has_presentation}
use Rattle.krb_service.proofs.ap_laws.has_presentation.Goals as goal

pub returns : goal.returns
returns c = has_presentation
