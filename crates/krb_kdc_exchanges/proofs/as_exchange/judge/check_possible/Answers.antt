use Rattle.std.proofs.Common.{◌≡◌, true, false, sym, refl, inl, ◌∙◌}
use Rattle.krb_kdc_exchanges.specs.AsTable.{is_later, is_listed}
use Rattle.krb_kdc_exchanges.specs.Call.{call_of}
use Rattle.krb_kdc_exchanges.proofs.as_exchange.judge.check_possible.Goals as goal

pub returns-then-not-is_listed : goal.returns-then-not-is_listed
returns-then-not-is_listed c =
    let later : is_later (call_of c.args.call.now) c.args.body.now ≡ false = sym c.is_later.ensures ∙ c.if-is_later.false in
    let listed : is_listed c.args.suite c.args.body.now ≡ false = sym c.is_listed.ensures ∙ c.if-not-is_listed.true in
    rw later (inl (c.in_ok-span.span, c.in_ok-span.ensures, rw listed refl))

pub returns : goal.returns
returns c =
    let later : is_later (call_of c.args.call.now) c.args.body.now ≡ false = sym c.is_later.ensures ∙ c.if-is_later.false in
    let listed : is_listed c.args.suite c.args.body.now ≡ true = sym c.is_listed.ensures ∙ c.if-not-is_listed.false in
    rw later (inl (c.in_ok-span.span, c.in_ok-span.ensures, rw listed refl))
