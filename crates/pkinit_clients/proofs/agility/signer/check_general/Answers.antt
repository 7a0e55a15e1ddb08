use Rattle.std.proofs.Common.{◌∙◌}
use Rattle.pkinit_clients.specs.Asked.{asked_of}
use Rattle.pkinit_clients.proofs.AgileSignerLemmas.{signed_as}
use Rattle.pkinit_clients.proofs.agility.signer.check_general.Goals as goal

pub returns : goal.returns
returns g c =
    signed_as (g.K.KeyFunctions.functions c.args.keys.now) (asked_of c.args.asked.now) c.args.content.now c.as_slice.result.now (c.as_slice.ensures.value ∙ c.in_ok-name.ensures)
    c.check_general_by.result c.check_general_by.ensures
