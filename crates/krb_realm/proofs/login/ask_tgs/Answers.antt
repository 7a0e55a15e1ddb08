use Rattle.krb_logins.specs.Input.{login_of}
use Rattle.krb_logins.specs.declared.refusal.LoginRefusal.TheVariants.{Asked}
use Rattle.krb_realm.specs.Logins.{TgsAsk}
use Rattle.krb_realm.proofs.Asking.{further_asked, further_unasked}
use Rattle.krb_logins.proofs.StepEnds.{told_as}
use Rattle.krb_realm.proofs.login.ask_tgs.Goals as goal

pub returns : goal.returns
returns c =
    let client = c.args.client.now in
    let granting = c.args.granting.now in
    let login = login_of c.args.input.now in
    let bad = c.tgs_request.ensures.bad_name in
    told_as Asked c.tgs_request.result c.map_err.result c.map_err.ensures.cases (TgsAsk client login granting)
    (λ sent is. further_asked client login granting c.tgs_request.result bad sent is (rw is at c.tgs_request.ensures.asks) (rw is at c.tgs_request.ensures.asked))
    (λ refusal is. further_unasked client login granting c.tgs_request.result bad refusal is (rw is at c.tgs_request.ensures.refusal))
