use Rattle.std.proofs.Common.{sym, ◌∙◌}
use Rattle.krb_realm.proofs.Honesty.{key_judged, no_key}
use Rattle.krb_realm.proofs.exchange.has_public_key.Goals as goal

pub returns-in-Some : goal.returns-in-Some
returns-in-Some g c =
    key_judged (g.K.KeyFunctions.functions c.args.keys.now) c.args.words.now c.in-Some.element c.is_public_key.result
    (sym c.in_ok-made.ensures ∙ c.in-Some.is) c.is_public_key.ensures

pub returns-in-None : goal.returns-in-None
returns-in-None g c = (
  (λ never. absurd (cc (never))),
  λ has. absurd (no_key (g.K.KeyFunctions.functions c.args.keys.now) c.args.words.now (sym c.in_ok-made.ensures ∙ c.in-None.is) has),
)
