use Rattle.std.proofs.Common.{ap, max}
use Rattle.krb_service.specs.KeytabService.{keytab_service_of, remembering_by_keytab_with}
use Rattle.krb_service.specs.RememberingService.{remembering_with}
use Rattle.krb_service.proofs.KeytabLaws.{to_sole}
use Rattle.krb_service.proofs.Running.{step_by}
use Rattle.krb_service.proofs.admitter.ServiceAdmitter.admit_request.Goals as goal

pub returns : goal.returns
returns c =
    let old = c.args.self.now in
    let told = c.admit_with.ensures in
    record {
      greatest = told.greatest;
      skew = told.skew;
      rest = ap keytab_service_of told.rest;
      remembers = λ admitted w.
          let moment = max old.seen.greatest c.args.moment in
          step_by (remembering_with c.args.fields old moment admitted c.args.message.now c.args.words.now).gives
          (remembering_by_keytab_with c.args.fields (keytab_service_of old) moment admitted c.args.message.now c.args.words.now).gives admitted c.admit_with.result c.admit_with.new.self.seen
          (to_sole old c.args.fields moment admitted c.args.message.now c.args.words.now) (told.remembers admitted w);
    }
