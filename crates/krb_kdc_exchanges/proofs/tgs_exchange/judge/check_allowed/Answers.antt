use Rattle.std.proofs.Common.{Bool, subst}
use Rattle.krb_messages.specs.Refusals.{IsJudged}
use Rattle.krb_kdc_exchanges.specs.Requests.{header_rows}
use Rattle.krb_kdc_exchanges.proofs.tgs_exchange.judge.check_allowed.Goals as goal

pub returns : goal.returns
returns c =
    subst (λ (is : Bool). IsJudged {T = Unit {0}} (header_rows 12 c.args.realm.now is c.args.request.now).gives c.check_header.result) c.has_option_beyond-is_refused.ensures c.check_header.ensures
