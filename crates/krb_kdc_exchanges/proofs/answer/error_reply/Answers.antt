use Rattle.std.proofs.Common.{◌%◌, ap, ◌∙◌}
use Rattle.std.specs.Option.{option_map}
use Rattle.krb_kdc_exchanges.specs.Errors.{error_bytes}
use Rattle.krb_kdc_exchanges.proofs.answer.error_reply.Goals as goal

pub returns-in-Some : goal.returns-in-Some
returns-in-Some c = rw c.in-Some.is c.in_ok-reply.ensures

pub returns : goal.returns
returns c =
    let call = c.args.call.now in
    let kdc_error = c.args.kdc_error in
    let error = c.in_ok-reply-2.ensures in
    rw c.in_default.is
    (error.0, error.1, error.2 ∙ ap (λ name. error_bytes call.realm.now error.0 (call.moment % 1000000) name kdc_error.code (option_map (λ h. h.items) kdc_error.e_data)) c.in_ok-service.ensures)
