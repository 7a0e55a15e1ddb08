use Rattle.std.proofs.Common.{ap, ◌∙◌}
use Rattle.std.specs.Option.{option_map}
use Rattle.krb_kdc_exchanges.specs.Errors.{error_bytes}
use Rattle.krb_kdc_exchanges.proofs.Errors.{made-bytes}
use Rattle.krb_kdc_exchanges.proofs.error.error_message.Goals as goal

pub returns : goal.returns
returns c =
    let time = c.second-time.result in
    let kdc_error = c.args.kdc_error in
    let bytes = c.in_ok-bytes.ensures
    ∙ made-bytes c.in_ok-version.version c.in_ok-kind.kind c.in_ok-susec.susec c.new.result c.args.realm.now time c.microsecond-microseconds.result
    c.new-2.result c.args.service.now kdc_error.code
    c.data_of.result (option_map (λ bytes. bytes.items) kdc_error.e_data)
    (rw c.from.ensures at c.in_ok-version.ensures) (rw c.from-2.ensures at c.in_ok-kind.ensures) c.in_ok-susec.ensures c.new.ensures c.new-2.ensures c.data_of.ensures
    ∙ ap (λ micros. error_bytes c.args.realm.now time micros c.args.service.now kdc_error.code (option_map (λ h. h.items) kdc_error.e_data)) c.microsecond-microseconds.ensures.value in
    (time, c.second-time.ensures, bytes)
