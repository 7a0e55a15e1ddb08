use Rattle.std.proofs.Common.{sym, ◌∙◌}
use Rattle.krb_logins.specs.Input.{held_by, login_of, realm_of}
use Rattle.pkinit_validation.specs.Trust.{trust_of}
use Rattle.krb_realm.proofs.ExchangeAsked.{certified_judged}
use Rattle.krb_realm.proofs.certified_honesty.is_certified_login_honest.Goals as goal

pub returns-then-not-honest : goal.returns-then-not-honest
returns-then-not-honest g c = ((λ never. absurd (cc (never))), λ by. sym c.if-not-honest.true ∙ c.in_ok-honest.ensures.1 by.honest)

pub returns : goal.returns
returns g c =
    certified_judged c.args.client.now c.args.own.now.certificate.now c.args.own.now.anchor.now (g.C.KeyFunctions.functions c.args.own.now.keys.now) (realm_of c.args.realm.now)
    (trust_of c.args.pkinit.now.anchor c.args.pkinit.now.certificate) (g.R.KeyFunctions.functions c.args.pkinit.now.keys.now) c.args.service.now (held_by c.args.service.now)
    (login_of c.args.input.now) c.has_honest_exchange.result c.requires.replied (c.in_ok-honest.ensures.0 c.if-not-honest.false)
    c.has_honest_exchange.ensures.honest c.has_honest_exchange.ensures.met
