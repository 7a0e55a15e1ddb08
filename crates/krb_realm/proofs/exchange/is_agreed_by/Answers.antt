use Rattle.std.proofs.Common.{sym, ◌∙◌}
use Rattle.krb_kdc_exchanges.specs.PkinitCalls.{call_of}
use Rattle.pkinit_validation.specs.Trust.{trust_of}
use Rattle.pkinit_clients.specs.Asked.{asked_of}
use Rattle.krb_realm.proofs.Honesty.{both_judged}
use Rattle.krb_realm.proofs.exchange.is_agreed_by.Goals as goal

pub returns-then-not-has_key : goal.returns-then-not-has_key
returns-then-not-has_key g c = (
  (λ never. absurd (cc (never))),
  λ by. sym c.if-not-has_key.true ∙ c.in_ok-has_key.ensures.1 by.own,
)

pub returns : goal.returns
returns g c =
    both_judged (g.C.KeyFunctions.functions c.args.keys.now) (trust_of c.args.pkinit.now.anchor c.args.pkinit.now.certificate) (g.R.KeyFunctions.functions c.args.pkinit.now.keys.now)
    (call_of c.args.call.now) (asked_of c.args.asked.now) c.args.padata.now c.has_one_secret.result (c.in_ok-has_key.ensures.0 c.if-not-has_key.false) c.has_one_secret.ensures
