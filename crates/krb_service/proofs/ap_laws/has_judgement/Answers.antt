use Rattle.krb_ap_requests.proofs.Judgements.{has_judgement}
use Rattle.krb_service.proofs.ap_laws.has_judgement.Goals as goal

pub returns : goal.returns
returns c = has_judgement
