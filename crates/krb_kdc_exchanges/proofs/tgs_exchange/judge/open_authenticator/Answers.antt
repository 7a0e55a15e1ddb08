use Rattle.std.proofs.Common.{◌≡◌, true, false, refl, sym, inl, ◌∙◌}
use Rattle.krb_time.specs.Skew.{is_far}
use Rattle.krb_kdc_exchanges.specs.Call.{call_of, skew_of}
use Rattle.krb_kdc_exchanges.proofs.tgs_exchange.judge.open_authenticator.Goals as goal

pub returns-then-is_far_from : goal.returns-then-is_far_from
returns-then-is_far_from c =
    let far : is_far (skew_of (call_of c.args.call.now)) c.args.call.now.moment c.in_ok-authenticated.authenticated.time ≡ true =
    rw c.skew.ensures.value at (sym c.is_far_from.ensures ∙ c.if-is_far_from.true) in
    inl (c.in_ok-authenticated.authenticated, c.in_ok-authenticated.ensures, rw far refl)

pub returns : goal.returns
returns c =
    let far : is_far (skew_of (call_of c.args.call.now)) c.args.call.now.moment c.in_ok-authenticated.authenticated.time ≡ false =
    rw c.skew.ensures.value at (sym c.is_far_from.ensures ∙ c.if-is_far_from.false) in
    inl (c.in_ok-authenticated.authenticated, c.in_ok-authenticated.ensures, rw far refl)
