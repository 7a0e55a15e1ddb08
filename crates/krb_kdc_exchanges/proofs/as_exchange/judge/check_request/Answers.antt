use Rattle.std.proofs.Common.{Bool, subst}
use Rattle.krb_messages.specs.Refusals.{IsJudged}
use Rattle.krb_kdc_exchanges.specs.Requests.{header_rows}
use Rattle.krb_kdc_exchanges.proofs.as_exchange.judge.check_request.Goals as goal

pub returns : goal.returns
returns c =
    subst (λ (is : Bool). IsJudged {T = Unit {0}} (header_rows 10 c.args.realm.now is c.args.request.now).gives c.check_header.result) c.has_refused_option-is_refused.ensures c.check_header.ensures
