use Rattle.gss_logins.proofs.HandedOut.{handed}
use Rattle.gss_logins.proofs.laws.delegated_is_handed_out.Goals as goal

pub returns : goal.returns
returns c = λ client credential forwarded initial words deleg can hands_on fits. handed client credential forwarded initial words deleg can hands_on fits
