use Rattle.pkinit_validation.specs.Replies.{dh_key_data}
use Rattle.pkinit_validation.proofs.SignedLemmas.{found_at, none_at}
use Rattle.pkinit_validation.proofs.signed.signed_key_info.Goals as goal

pub returns-in-Ok : goal.returns-in-Ok
returns-in-Ok g c =
    found_at (g.K.KeyFunctions.functions c.args.keys.now).sign c.args.info.now c.args.certificate.now c.in_ok-content_type.content_type dh_key_data c.in_ok-content_type.ensures.1 c.in-Ok.signed
    c.in-Ok.ensures

pub returns : goal.returns
returns g c =
    none_at (g.K.KeyFunctions.functions c.args.keys.now).sign c.args.info.now c.args.certificate.now dh_key_data c.in-Err.fault
    (λ e. let same = rw e at c.eq.ensures in absurd (cc (same, c.if-eq.false))) c.in-Err.ensures
