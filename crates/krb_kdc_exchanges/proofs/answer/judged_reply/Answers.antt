use Rattle.std.proofs.Common.{refl}
use Rattle.std.specs.Option.{option_copied}
use Rattle.krb_kdc_exchanges.specs.Call.{call_of}
use Rattle.krb_kdc_exchanges.proofs.Answered.{error_with}
use Rattle.krb_kdc_exchanges.proofs.answer.judged_reply.Goals as goal

pub returns-in-Ok-clause-reply : goal.returns-in-Ok-clause-reply
returns-in-Ok-clause-reply c = rw c.in-Ok.is refl

pub returns-in-Ok-clause-outcome : goal.returns-in-Ok-clause-outcome
returns-in-Ok-clause-outcome c = rw c.in-Ok.is refl

pub returns-in_ok-bytes-in-Err-clause-reply : goal.returns-in_ok-bytes-in-Err-clause-reply
returns-in_ok-bytes-in-Err-clause-reply c =
    let error = c.in_ok-bytes-in-Err.ensures in
    rw c.in-Err.is
    (error_with (call_of c.args.call.now) c.args.request.now c.in-Err.kdc_error (option_copied c.service_of.result) c.in_ok-bytes-in-Err.bytes.items error.0 c.service_of.ensures error.1 error.2)

pub returns-in_ok-bytes-in-Err-clause-outcome : goal.returns-in_ok-bytes-in-Err-clause-outcome
returns-in_ok-bytes-in-Err-clause-outcome c = rw c.in-Err.is refl
