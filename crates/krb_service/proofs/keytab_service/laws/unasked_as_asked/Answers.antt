use Rattle.krb_service.proofs.Unasked.{unasked_admits, unasked_refuses, unasked_replies}
use Rattle.krb_service.proofs.keytab_service.laws.unasked_as_asked.Goals as goal

pub returns-clause-admits : goal.returns-clause-admits
returns-clause-admits c = λ service fields. unasked_admits fields service

pub returns-clause-refuses : goal.returns-clause-refuses
returns-clause-refuses c = λ service fields. unasked_refuses fields service

pub returns-clause-replies : goal.returns-clause-replies
returns-clause-replies c = λ service fields. unasked_replies fields service
