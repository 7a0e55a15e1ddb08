use Rattle.std.proofs.Common.{inr, refl, sym, ◌∙◌}
use Rattle.krb_realm.proofs.Honesty.{of_padata}
use Rattle.krb_realm.proofs.exchange.padata_if_honest.Goals as goal

pub returns-then-not-honest-clause-refusal : goal.returns-then-not-honest-clause-refusal
returns-then-not-honest-clause-refusal g c =
    inr (
      refl,
      λ it met.
          let own = of_padata (g.C.KeyFunctions.functions c.args.exchange.now.own.now.keys.now) c.args.exchange.now.own.now.certificate.now c.args.body.now c.args.moment c.args.words.now c.args.padata
          c.as_bytes.result.now c.as_bytes.ensures it in
          let never = sym c.if-not-honest.true ∙ c.in-Ok.ensures.met own met in
          absurd (cc (never)),
    )

pub returns-clause-shown : goal.returns-clause-shown
returns-clause-shown g c = λ it.
    c.in-Ok.ensures.honest c.if-not-honest.false
    (of_padata (g.C.KeyFunctions.functions c.args.exchange.now.own.now.keys.now) c.args.exchange.now.own.now.certificate.now c.args.body.now c.args.moment c.args.words.now c.args.padata
    c.as_bytes.result.now c.as_bytes.ensures it)
