use Rattle.std.proofs.Common.{sym, ◌∙◌}
use Rattle.krb_tickets.proofs.KeySizes.{made_key}
use Rattle.krb_tickets.proofs.keys.key_of.Goals as goal

pub returns : goal.returns
returns c =
    c.ok.ensures.value ∙ made_key c.args.key.now c.in_ok-suite.suite _ c.new.result (sym c.in_ok-suite.ensures) c.as_bytes.ensures c.new.ensures.fits c.new.ensures.made
