use Rattle.std.proofs.Common.{◌≡◌, true, false, None, Some, refl, sym, inl, inr, ◌∙◌}
use Rattle.krb_time.specs.Skew.{is_far}
use Rattle.krb_kdc_exchanges.specs.Call.{call_of, skew_of}
use Rattle.krb_messages.specs.Padata.{first_of}
use Rattle.krb_kdc_exchanges.specs.EncryptedTimestamps.{moment_of}
use Rattle.krb_kdc_exchanges.proofs.as_exchange.judge.check_timestamp.Goals as goal

pub returns-in_default-2 : goal.returns-in_default-2
returns-in_default-2 c =
    let present : first_of 2 c.args.padata.now ≡ Some c.in-Some.value.now = sym c.in-Some.ensures in
    let none = rw (c.in_default-2.is, c.as_bytes.ensures) at c.in_ok-timestamp.ensures in
    rw present (inr (none, refl))

pub returns-in_default-moment : goal.returns-in_default-moment
returns-in_default-moment c =
    let present : first_of 2 c.args.padata.now ≡ Some c.in-Some.value.now = sym c.in-Some.ensures in
    let found = rw (c.in-Some-2.is, c.as_bytes.ensures) at c.in_ok-timestamp.ensures in
    let time : moment_of c.in-Some-2.timestamp ≡ None = sym c.moment_of-moment.ensures ∙ c.in_default-moment.is in
    rw present (inl (c.in-Some-2.timestamp, found, rw time refl))

pub returns-then-is_far_from : goal.returns-then-is_far_from
returns-then-is_far_from c =
    let present : first_of 2 c.args.padata.now ≡ Some c.in-Some.value.now = sym c.in-Some.ensures in
    let found = rw (c.in-Some-2.is, c.as_bytes.ensures) at c.in_ok-timestamp.ensures in
    let time : moment_of c.in-Some-2.timestamp ≡ Some c.in-Some-moment.time = sym c.moment_of-moment.ensures ∙ c.in-Some-moment.is in
    let far : is_far (skew_of (call_of c.args.call.now)) c.args.call.now.moment c.in-Some-moment.time ≡ true =
    rw c.skew.ensures.value at (sym c.is_far_from.ensures ∙ c.if-is_far_from.true) in
    rw present (inl (c.in-Some-2.timestamp, found, rw (time, far) refl))

pub returns : goal.returns
returns c =
    let present : first_of 2 c.args.padata.now ≡ Some c.in-Some.value.now = sym c.in-Some.ensures in
    let found = rw (c.in-Some-2.is, c.as_bytes.ensures) at c.in_ok-timestamp.ensures in
    let time : moment_of c.in-Some-2.timestamp ≡ Some c.in-Some-moment.time = sym c.moment_of-moment.ensures ∙ c.in-Some-moment.is in
    let far : is_far (skew_of (call_of c.args.call.now)) c.args.call.now.moment c.in-Some-moment.time ≡ false =
    rw c.skew.ensures.value at (sym c.is_far_from.ensures ∙ c.if-is_far_from.false) in
    rw present (inl (c.in-Some-2.timestamp, found, rw (time, far) refl))
