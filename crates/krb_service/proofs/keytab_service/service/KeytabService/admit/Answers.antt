use Rattle.krb_service.specs.Once.{once, once_with}
use Rattle.krb_service.specs.RememberingService.{remembering, remembering_with}
use Rattle.krb_service.specs.KeytabService.{remembering_by_keytab, remembering_by_keytab_with}
use Rattle.krb_service.proofs.keytab_service.service.KeytabService.admit.Goals as goal

pub returns-clause-remembers : goal.returns-clause-remembers
unfolding once once_with remembering remembering_with remembering_by_keytab remembering_by_keytab_with
returns-clause-remembers c = c.admit_with.ensures.remembers
