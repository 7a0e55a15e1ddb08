use Rattle.std.proofs.Common.{ℕ, Bool, Option, Result, sym, subst}
use Rattle.krb_messages.specs.Refusals.{IsJudged}
use Rattle.krb_messages.specs.declared.refusal.Refusal.{Refusal}
use Rattle.krb_kdc_exchanges.specs.Renewals.{renew_till_of}
use Rattle.krb_kdc_exchanges.specs.Requests.{lasting_to}
use Rattle.krb_kdc_exchanges.specs.TgsTable.{further_lasting}
use Rattle.krb_kdc_exchanges.specs.Times.{no_end}
use Rattle.krb_kdc_exchanges.specs.declared.span.Span.{Span}
use Rattle.krb_kdc_exchanges.proofs.tgs_exchange.renewing.further_lasting.Goals as goal

pub returns-then-renews : goal.returns-then-renews
returns-then-renews c =
    let part = c.args.part.now in
    let moment = c.args.moment in
    let r : Result Span Refusal = c.lasting_to.result in
    subst (λ (renews : Bool). IsJudged {T = Span} (further_lasting renews c.args.lifetime moment part c.args.body.now).gives r) (sym c.if-renews.true)
    (subst (λ (life : ℕ). IsJudged {T = Span} (lasting_to life moment (renew_till_of part) no_end).gives r) c.life_of.ensures.value
    (subst (λ (old : Option ℕ). IsJudged {T = Span} (lasting_to c.life_of.result moment old no_end).gives r) c.renew_till_of.ensures c.lasting_to.ensures))

pub returns : goal.returns
returns c =
    let part = c.args.part.now in
    let r : Result Span Refusal = c.lasting.result in
    subst (λ (renews : Bool). IsJudged {T = Span} (further_lasting renews c.args.lifetime c.args.moment part c.args.body.now).gives r) (sym c.if-renews.false)
    c.lasting.ensures
