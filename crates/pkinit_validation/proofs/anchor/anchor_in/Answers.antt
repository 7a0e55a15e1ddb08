use Rattle.pkinit_validation.proofs.AnchorLemmas.{made_of, none_made}
use Rattle.pkinit_validation.proofs.anchor.anchor_in.Goals as goal

pub returns-in_err-value : goal.returns-in_err-value
returns-in_err-value g c =
    none_made g.T.Spelled.spells g.T.NamesAuthority.authority c.args.bytes.now _ _ c.from_residual.ensures.1 c.in_err-value.ensures.value

pub returns : goal.returns
returns g c =
    made_of g.T.Spelled.spells g.T.NamesAuthority.authority c.args.bytes.now _ _ c.in_ok-value.ensures.value c.in_ok-anchor.ensures
