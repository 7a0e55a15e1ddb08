use Rattle.std.proofs.Common.{ap, subst, ◌∙◌}
use Rattle.std.proofs.lemmas.Bool.{false≢true}
use Rattle.std.specs.Prelude.{IsOk, length}
use Rattle.krb_tickets.proofs.KeySizes.{suite_sized}
use Rattle.krb_kdc_exchanges.proofs.tgs_exchange.whole.session_key.Goals as goal

pub unreachable-requires : goal.unreachable-requires
unreachable-requires c =
    let sized = ap length c.as_bytes.ensures ∙ suite_sized c.args.part.now.key.0 c.args.authenticated.now.suite c.requires in
    false≢true (subst (λ made. IsOk made) c.in-Err.is (c.new.ensures.fits sized))
