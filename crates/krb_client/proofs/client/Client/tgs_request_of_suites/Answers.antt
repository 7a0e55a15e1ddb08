use Rattle.std.proofs.lemmas.Result.{IfOk-weaker}
use Rattle.krb_client.proofs.PlainOptions.{plain_tgs, tgs_plain}
use Rattle.krb_client.proofs.client.Client.tgs_request_of_suites.Goals as goal

pub returns-clause-asks : goal.returns-clause-asks
returns-clause-asks c = IfOk-weaker c.tgs_request_with.result _ _ (λ r is. plain_tgs is) (rw c.plain.ensures at c.tgs_request_with.ensures.asks)

pub returns-clause-only : goal.returns-clause-only
returns-clause-only c = IfOk-weaker c.tgs_request_with.result _ _ (λ r only. λ other asks. only other (tgs_plain asks)) (rw c.plain.ensures at c.tgs_request_with.ensures.only)
