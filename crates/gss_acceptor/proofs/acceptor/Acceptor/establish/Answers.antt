use Rattle.gss_acceptor.specs.Accepting.{AcceptorRecord}
use Rattle.gss_acceptor.proofs.Handling.{by_admission, by_cause}
use Rattle.gss_acceptor.proofs.acceptor.Acceptor.establish.Goals.{in-Ok, in-Err}
use Rattle.gss_acceptor.proofs.acceptor.Acceptor.establish.Goals as goal

pub returns : goal.returns
returns g c =
    let seen_as = g.S.Admitter.as_keytab in
    let inside : AcceptorRecord = record { service = seen_as c.self.inside.service; terms = c.self.inside.terms } in
    let fields = c.fields-fields.ensures.fields in
    elim c.match-admit_request.branch [
      | in-Ok w ↦
          rw w.result-is
          (by_admission inside c.args.self.now (seen_as c.admit_request.new.self) _ _ c.args.moment c.args.request.now c.args.words.now w.in-Ok.admission w.established_by.result c.self.view_is fields
          c.clock_skew-skew.ensures.skew w.in-Ok.ensures w.established_by.ensures)
      | in-Err w ↦
          rw w.result-is
          (by_cause inside c.args.self.now (seen_as c.admit_request.new.self) _ c.args.moment c.args.request.now c.args.words.now w.in-Err.cause c.self.view_is fields w.in-Err.ensures)
    ]
