use Rattle.pkinit_clients.specs.AuthPacks.{auth_data}
use Rattle.pkinit_clients.proofs.SignedLemmas.{signs_at, none_at}
use Rattle.pkinit_clients.proofs.signed.signed_auth_pack.Goals as goal

pub returns-in-Ok : goal.returns-in-Ok
returns-in-Ok g c =
    signs_at (g.K.KeyFunctions.functions c.args.keys.now).sign c.args.pack.now c.args.certificate.now c.in_ok-content_type.content_type auth_data c.in_ok-content_type.ensures.1 c.in-Ok.signed
    c.in-Ok.ensures

pub returns : goal.returns
returns g c =
    none_at (g.K.KeyFunctions.functions c.args.keys.now).sign c.args.pack.now c.args.certificate.now auth_data c.in-Err.fault
    (λ e. let same = rw e at c.eq.ensures in absurd (cc (same, c.if-eq.false))) c.in-Err.ensures
