use Rattle.pkinit_validation.proofs.TrustLemmas.{trusted_as}
use Rattle.pkinit_validation.specs.Expected.{expected_of}
use Rattle.pkinit_validation.specs.Judged.{judged_of}
use Rattle.pkinit_validation.proofs.trusted.check_trusted.Goals as goal

pub returns : goal.returns
returns g c = trusted_as (g.K.KeyFunctions.functions c.args.keys.now) (expected_of c.args.expected.now) (judged_of c.args.judged.now) _ c.check_in.ensures
