use Rattle.krb_logins.specs.Input.{login_of}
use Rattle.krb_logins.specs.declared.refusal.LoginRefusal.TheVariants.{Admitted}
use Rattle.krb_logins.specs.ApExchanges.{Admit, remembered}
use Rattle.krb_logins.proofs.Admitting.{did_admit, did_refuse}
use Rattle.krb_logins.proofs.StepEnds.{told_as}
use Rattle.krb_logins.proofs.presenting.admit.Goals as goal

pub returns-clause-admits : goal.returns-clause-admits
returns-clause-admits c = λ admitted window.
    let service = c.args.service.now in
    let login = login_of c.args.input.now in
    let seen = c.admit.new.self.seen in
    told_as Admitted c.admit.result c.map_err.result c.map_err.ensures.cases
    (λ result. Admit service login c.args.message.now (remembered service admitted) result seen)
    (λ admission is. did_admit service login c.args.message.now admitted seen c.admit.ensures.greatest admission (rw is at c.admit.ensures.remembers admitted window))
    (λ refusal is. did_refuse service login c.args.message.now admitted seen c.admit.ensures.greatest refusal (rw is at c.admit.ensures.remembers admitted window))
