use Rattle.krb_realm_accounts.specs.Names.{parts}
use Rattle.krb_logins.specs.Input.{login_of}
use Rattle.krb_logins.specs.declared.refusal.LoginRefusal.TheVariants.{Asked}
use Rattle.krb_realm.specs.Logins.{AsAsk}
use Rattle.krb_realm.proofs.Asking.{asked, no_memory, unasked}
use Rattle.krb_logins.proofs.StepEnds.{told_as}
use Rattle.krb_realm.proofs.login.ask_as.Goals as goal

pub returns-in_default : goal.returns-in_default
returns-in_default g c =
    no_memory c.args.client.now c.is_well_formed.ensures.realm (g.M.Means.means c.args.means.now) (login_of c.args.input.now)

pub returns : goal.returns
returns g c =
    let client = c.args.client.now in
    let named = c.is_well_formed.ensures.realm in
    let means = g.M.Means.means c.args.means.now in
    let login = login_of c.args.input.now in
    let name = parts c.in-Ok.service.items in
    told_as Asked c.as_request.result c.map_err.result c.map_err.ensures.cases (AsAsk client means login)
    (λ sent is.
    asked client named means login name (rw c.realm.ensures at c.in-Ok.ensures) sent
    (rw (c.deref.ensures.value, is) at c.as_request.ensures.asks) (rw (c.deref.ensures.value, is) at c.as_request.ensures.asked))
    (λ refusal is.
    unasked client named means login name (rw c.realm.ensures at c.in-Ok.ensures) refusal
    (rw (c.deref.ensures.value, is) at c.as_request.ensures.refusal))
