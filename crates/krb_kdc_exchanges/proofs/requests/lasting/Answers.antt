use Rattle.std.proofs.Common.{ℕ, Result, subst}
use Rattle.std.specs.Option.{option_map}
use Rattle.asn1_leaves.specs.GeneralizedTime.{seconds_of}
use Rattle.krb_messages.specs.Refusals.{IsJudged}
use Rattle.krb_messages.specs.declared.refusal.Refusal.{Refusal}
use Rattle.krb_kdc_exchanges.specs.Requests.{lasting_to}
use Rattle.krb_kdc_exchanges.specs.declared.span.Span.{Span}
use Rattle.krb_kdc_exchanges.proofs.requests.lasting.Goals as goal

pub returns : goal.returns
returns c =
    let old = option_map seconds_of c.args.old in
    let r : Result Span Refusal = c.lasting_to.result in
    subst (λ (till : ℕ). IsJudged {T = Span} (lasting_to c.args.lifetime c.args.moment old till).gives r) c.seconds-till.ensures.value c.lasting_to.ensures
