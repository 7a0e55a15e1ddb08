use Rattle.std.proofs.lemmas.Result.{IfOk-weaker}
use Rattle.krb_client.proofs.PlainOptions.{as_plain, plain_as}
use Rattle.krb_client.proofs.client.Client.as_request_of_suites.Goals as goal

pub returns-clause-asks : goal.returns-clause-asks
returns-clause-asks g c = IfOk-weaker c.as_request_with.result _ _ (λ r is. plain_as is) (rw c.plain.ensures at c.as_request_with.ensures.asks)

pub returns-clause-only : goal.returns-clause-only
returns-clause-only g c = IfOk-weaker c.as_request_with.result _ _ (λ r only. λ other asks. only other (as_plain asks)) (rw c.plain.ensures at c.as_request_with.ensures.only)

pub returns-clause-refusal : goal.returns-clause-refusal
returns-clause-refusal g c = rw c.plain.ensures at c.as_request_with.ensures.refusal
