use Rattle.std.proofs.Common.{List, ℕ, Option, IfOk, subst}
use Rattle.krb_log.specs.Reasons.{reason_by_value, timestamp_reason}
use Rattle.krb_log.proofs.preauthentication.reason_of_client.Goals as goal

pub returns : goal.returns
returns c =
    let client = c.args.client.now in
    let told : IfOk c.timestamp_reason.result (timestamp_reason client c.in-Some.value.now).gives =
    subst (λ (bytes : List ℕ). IfOk c.timestamp_reason.result (timestamp_reason client bytes).gives) c.as_bytes.ensures c.timestamp_reason.ensures in
    subst (λ (found : Option (List ℕ)). IfOk c.timestamp_reason.result (reason_by_value client found).gives) c.in-Some.ensures told
